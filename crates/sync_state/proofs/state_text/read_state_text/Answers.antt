use Rattle.std.proofs.Common.{◌≡◌, ◌∙◌, ◌+◌, ℕ, List, length, ap, subst}
use Rattle.std.proofs.lemmas.Result.{err_from_is_err_and}
use Rattle.sync_state.specs.StateReading.{HeadRead, ReportsEntry, ReportsEnd}
use Rattle.sync_state.proofs.StateLemmas.{stops_in_entries, stops_at_end, state_is}
use Rattle.sync_state.proofs.state_text.read_state_text.Goals as goal

pub returns-in_err-entries-clause-refused : goal.returns-in_err-entries-clause-refused
returns-in_err-entries-clause-refused c =
    let text = c.args.text.now in
    let between = c.read_head.new.lines.rest.now in
    let fault = c.in_err-entries.field-0.0 in
    let head = subst (λ (x : List ℕ). HeadRead c.in_ok-head.head x between) c.new-lines.ensures.1 c.in_ok-head.ensures.ok in
    let reported = subst (λ (n : ℕ). ReportsEntry c.in_ok-head.head.version n between fault) c.in_ok-head.ensures.taken c.in_err-entries.ensures.refused in
    let p = err_from_is_err_and c.from_residual-in_err-entries.result c.from_residual-in_err-entries.ensures.1 in
    rw (p.1, p.2) (stops_in_entries c.in_ok-head.head text between fault head reported)

pub returns-in_err-read_end-clause-refused : goal.returns-in_err-read_end-clause-refused
returns-in_err-read_end-clause-refused c =
    let text = c.args.text.now in
    let between = c.read_head.new.lines.rest.now in
    let rest = c.read_entries.new.lines.rest.now in
    let entries = c.in_ok-entries.entries in
    let fault = c.in_err-read_end.field-0.0 in
    let head = subst (λ (x : List ℕ). HeadRead c.in_ok-head.head x between) c.new-lines.ensures.1 c.in_ok-head.ensures.ok in
    let taken : c.read_entries.new.lines.taken ≡ 4 + length entries = c.in_ok-entries.ensures.taken ∙ ap (λ (n : ℕ). n + length entries) c.in_ok-head.ensures.taken in
    let reported = subst (λ (n : ℕ). ReportsEnd n rest fault) taken c.in_err-read_end.ensures.refused in
    let p = err_from_is_err_and c.from_residual-in_err-read_end.result c.from_residual-in_err-read_end.ensures.1 in
    rw (p.1, p.2) (stops_at_end c.in_ok-head.head entries text between rest fault head c.in_ok-entries.ensures.ok reported)

pub returns-clause-spelled : goal.returns-clause-spelled
returns-clause-spelled c =
    let text = c.args.text.now in
    let head = subst (λ (x : List ℕ). HeadRead c.in_ok-head.head x c.read_head.new.lines.rest.now) c.new-lines.ensures.1 c.in_ok-head.ensures.ok in
    state_is c.in_ok-head.head c.in_ok-entries.entries text c.read_head.new.lines.rest.now c.read_entries.new.lines.rest.now head c.in_ok-entries.ensures.ok c.in_ok-read_end.ensures.ok
