use Rattle.std.proofs.Common.{sym, ◌∙◌}
use Rattle.std.proofs.lemmas.Bool.{false≢true}
use Rattle.rules.specs.declared.entry.Entry.{Entry}
use Rattle.sync_state.specs.declared.version.Version.TheVariants.{Two}
use Rattle.sync_state.specs.StateText.{IsEntry}
use Rattle.sync_state.proofs.StateLemmas.{no_entry, no_letter}
use Rattle.sync_state.proofs.state_text.entry_of.Goals as goal

pub returns-in_err-far-clause-none : goal.returns-in_err-far-clause-none
returns-in_err-far-clause-none c = no_entry _ c.args.version c.args.line.now c.in_err-far.ensures.none

pub returns-else-has_letters-clause-none : goal.returns-else-has_letters-clause-none
returns-else-has_letters-clause-none c =
    let some = c.in_ok-far.ensures.some in
    let e : Entry = record { far = c.in_ok-far.far; near = c.in_ok-far.near; flags = c.in_ok-far.flags } in
    let fits : IsEntry Two e = record { far = some.0.0; near = some.0.1.0; flags = some.0.1.1 } in
    no_letter c.args.version c.args.line.now e fits (λ h. false≢true (sym c.if-has_letters.false ∙ c.has_letters.ensures.0 h)) some.1
