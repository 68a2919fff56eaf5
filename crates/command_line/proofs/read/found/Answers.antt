use Rattle.std.proofs.Common.{◌∙◌, ◌≡◌, true, ap, subst, sym, map}
use Rattle.std.proofs.lemmas.Result.{err_from_is_err_and}
use Rattle.clap.specs.Faults.{fault_of, is_simple_and_free}
use Rattle.clap.specs.Kinds.{HasKind}
use Rattle.clap.specs.Simple.{App, is_simple, matches_of}
use Rattle.clap.specs.Takes.{takes}
use Rattle.clap.specs.Values.{kind_of}
use Rattle.clap.specs.declared.error.kind.ErrorKind.TheVariants.{OutOfMemory}
use Rattle.command_line.specs.Synopsis.{synopsis}
use Rattle.command_line.proofs.SynopsisLemmas.{synopsis_is_free, synopsis_is_simple, reported_is_fault}
use Rattle.command_line.proofs.read.found.Goals as goal

pub returns-in_err-try_get_matches_from-clause-err : goal.returns-in_err-try_get_matches_from-clause-err
returns-in_err-try_get_matches_from-clause-err g c =
    let words = map g.S.AsStr.text c.args.words.now in
    let is = c.in_ok-command.ensures in
    let error = c.in_err-try_get_matches_from.field-0.0 in
    let reported = err_from_is_err_and c.from_residual-in_err-try_get_matches_from.result c.from_residual-in_err-try_get_matches_from.ensures.1 in
    let kind = subst (λ (a : App). HasKind (fault_of a words) error) is (c.in_err-try_get_matches_from.ensures.kinds (ap is_simple_and_free is ∙ synopsis_is_free)) in
    let passes : takes synopsis words ≡ true → kind_of error ≡ OutOfMemory =
    λ t. c.in_err-try_get_matches_from.ensures.passes (ap (λ (a : App). takes a words) is ∙ t) in
    rw reported.1 (reported_is_fault words error reported.0 reported.2 passes kind)

pub returns-clause-taken : goal.returns-clause-taken
returns-clause-taken g c =
    let words = map g.S.AsStr.text c.args.words.now in
    let is = c.in_ok-command.ensures in
    ap (λ (a : App). fault_of a words) (sym is) ∙ c.in_ok-try_get_matches_from.ensures.kinds (ap is_simple_and_free is ∙ synopsis_is_free)

pub returns-clause-rows : goal.returns-clause-rows
returns-clause-rows g c =
    let words = map g.S.AsStr.text c.args.words.now in
    let is = c.in_ok-command.ensures in
    (c.in_ok-try_get_matches_from.ensures.matches (ap is_simple is ∙ synopsis_is_simple)).0 ∙ ap (λ (a : App). matches_of a words) is
