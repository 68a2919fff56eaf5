use Rattle.std.proofs.Common.{◌≡◌, ◌≢◌, ◌∙◌, ap, true, false, eqb, ℕ, List, ◌++◌, length, take, drop, Option, None, Some}
use Rattle.std.specs.Prelude.{IfNone, IfSome}
use Rattle.std.specs.Cmp.Lexicographic.{pointwise}
use Rattle.texts.proofs.StartLemmas.{starts, no_start}
use Rattle.sync_state.proofs.fields.after.Goals as goal

refused : {A X : Type 0} (r : Option X) (fits : A → Type 0) (spelling : A → List ℕ) (start line : List ℕ) → pointwise eqb (take (length start) line) start ≡ false
    → IfNone r ((a : A) → fits a → line ≢ start ++ spelling a)
refused None fits spelling start line other = λ a f e. no_start start line (spelling a) other e
refused (Some x) fits spelling start line other = tt

taken : {A : Type 0} (r : Option A) (fits : A → Type 0) (spelling : A → List ℕ) (start line left : List ℕ) → pointwise eqb (take (length start) line) start ≡ true
    → left ≡ drop (length start) line → IfSome r (λ a. fits a × (left ≡ spelling a)) → IfSome r (λ a. fits a × (line ≡ start ++ spelling a))
taken None fits spelling start line left same is h = tt
taken (Some a) fits spelling start line left same is h = (h.0, starts start line left same is ∙ ap (λ (x : List ℕ). start ++ x) h.1)

pub returns-in_err-strip_prefix-clause-none : goal.returns-in_err-strip_prefix-clause-none
returns-in_err-strip_prefix-clause-none g c =
    refused _ g.T.Fields.fits g.T.Fields.spelling c.args.start.now c.args.line.now c.in_err-strip_prefix.ensures.cases

pub returns-clause-some : goal.returns-clause-some
returns-clause-some g c =
    taken _ g.T.Fields.fits g.T.Fields.spelling c.args.start.now c.args.line.now c.in_ok-strip_prefix.field-0.now c.in_ok-strip_prefix.ensures.cases.0 c.in_ok-strip_prefix.ensures.cases.1 c.read.ensures.some
