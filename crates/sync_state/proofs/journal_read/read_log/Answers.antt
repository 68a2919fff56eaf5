use Rattle.std.proofs.Common.{◌≡◌, ◌∙◌, ◌+◌, ℕ, List, [], ◌∷◌, ◌++◌, length, length-append, sym, ap, subst, arith, rules}
use Rattle.sync_state.specs.declared.journal.Logged.{Logged}
use Rattle.sync_state.specs.JournalText.{log_line}
use Rattle.sync_state.specs.JournalReading.{AreLogged, FitsAt}
use Rattle.sync_state.proofs.LogLemmas.{log_more}
use Rattle.sync_state.proofs.journal_read.read_log.Goals as goal

pub loop-line-preserved : goal.loop-line-preserved
loop-line-preserved c =
    let log = c.loop-line.log.items in
    let l = c.in-Some-next_logged.logged in
    let line = c.in-Some.line.text.now in
    let steps = c.args.steps.now in
    let count : c.len.result ≡ length log = search rules in
    let some = c.in-Some-next_logged.ensures.some in
    let fits = subst (λ (k : ℕ). FitsAt steps k l) count some.0 in
    let is = some.1 ∙ ap (λ (k : ℕ). log_line (k + 1) l) count in
    let more = log_more steps log l line c.args.lines.now.rest.now c.loop-line.lines.rest.now c.next_line.new.self.rest.now c.loop-line.invariant.0 fits
    c.in-Some.ensures.some.0 c.in-Some.ensures.some.1 is in
    let same : c.push.new.self.items ≡ log ++ l ∷ [] = c.in_ok-push-in-Some-next_logged.ensures.items in
    let size = ap (λ (z : List Logged). length z) same in
    let taken = c.in-Some.ensures.taken.1 in
    let before = c.loop-line.invariant.1 in
    (subst (λ (z : List Logged). AreLogged steps z c.args.lines.now.rest.now c.next_line.new.self.rest.now) (sym same) more, omega (arith, length-append log (l ∷ [])))
