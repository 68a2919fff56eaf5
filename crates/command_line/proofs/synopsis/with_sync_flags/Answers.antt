use Rattle.std.proofs.Common.{arith, ap₂, sym, ◌∙◌, ◌≡◌, refl}
use Rattle.std.proofs.lemmas.List.Sums.{fold_more}
use Rattle.clap.specs.Simple.{app_of, with_rule}
use Rattle.command_line.specs.SyncFlags.{sync_flags}
use Rattle.command_line.specs.declared.sync_flag.SyncFlag.TheVariants.{Pull}
use Rattle.command_line.proofs.synopsis.with_sync_flags.Invariants.{with_flag}
use Rattle.command_line.proofs.synopsis.with_sync_flags.Goals as goal

pub loop-flag-preserved : goal.loop-flag-preserved
loop-flag-preserved c =
    let added = c.in_ok-command.ensures.shape c.sync_flag.ensures.local ∙ ap₂ with_rule c.loop-flag.invariant c.sync_flag.ensures.rule in
    let more = fold_more with_flag (app_of c.args.begun) sync_flags c.loop-flag.flag-index Pull (omega arith) in
    added ∙ sym more

pub returns : goal.returns
returns c =
    let all : c.loop-flag.flag-index ≡ 7 = omega arith in
    c.loop-flag.invariant ∙ rw all refl
