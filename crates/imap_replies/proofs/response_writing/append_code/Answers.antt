use Rattle.imap_replies.proofs.response_writing.append_code.Goals as goal

pub returns-in-Other-clause-ok : goal.returns-in-Other-clause-ok
returns-in-Other-clause-ok c = rw c.in-Other.is c.append_other.ensures.ok
