use Rattle.std.proofs.Common.{arith, sym, ◌∙◌}
use Rattle.maildir.proofs.NameLemmas.{uid_of-decimal, new_uid}
use Rattle.maildir.proofs.name.read_uid.Goals as goal

pub returns : goal.returns
returns c =
    let read = c.in_ok-read_u32.ensures.spelled.0 in
    new_uid c.new.result _ c.new.ensures ∙ sym (uid_of-decimal _ c.args.digits.now (omega arith) read)
