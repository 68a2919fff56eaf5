use Rattle.link_face.proofs.TakenLemmas.{memory_alone, err_case}
use Rattle.link_face.proofs.turning.reply_of.Goals as goal

pub returns-in-Err-clause-found : goal.returns-in-Err-clause-found
returns-in-Err-clause-found c reply spelled fits =
    err_case c.no_reply.result _ (c.no_reply.ensures.memory (memory_alone c.args.bytes.now reply c.in-Err.fault c.in-Err.ensures.takes spelled fits))
