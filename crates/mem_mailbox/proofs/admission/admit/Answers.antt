use Rattle.std.proofs.Common.{◌≡◌, ◌∙◌, rules, false}
use Rattle.std.specs.Result.{is_ok}
use Rattle.std.proofs.lemmas.Result.{err_from_is_err_and}
use Rattle.mem_mailbox.proofs.MemCalls.{unadmitted}
use Rattle.mem_mailbox.proofs.admission.admit.Goals as goal

pub returns-in_err-append-clause-err : goal.returns-in_err-append-clause-err
returns-in_err-append-clause-err c =
    let p = err_from_is_err_and c.from_residual.result c.from_residual.ensures.1 in
    let s = c.args.store.now in
    let none : is_ok c.append.result ≡ false = search rules in
    let messages = rw none at c.append.ensures.items in
    let files = rw none at c.append.ensures.other_items in
    rw p.1 (unadmitted s.validity s.next s.messages.items c.append.new.self.items c.args.waiting.now.items c.append.new.other.items messages (files ∙ c.number_files.ensures))
