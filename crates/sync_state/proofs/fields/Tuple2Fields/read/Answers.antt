use Rattle.std.proofs.Common.{◌≢◌, ◌∙◌, ◌∷◌, ◌++◌, ℕ, List, sym, Option, None, Some}
use Rattle.std.specs.Prelude.{IfNone}
use Rattle.sync_state.specs.Cuts.{same_cut, no_cut}
use Rattle.sync_state.proofs.fields.Tuple2Fields.read.Goals as goal

refused : {A X : Type 0} (r : Option X) (fits : A → Type 0) (spelling : A → List ℕ) (text : List ℕ) → ((a : A) → fits a → text ≢ spelling a)
    → IfNone r ((a : A) → fits a → text ≢ spelling a)
refused None fits spelling text h = h
refused (Some x) fits spelling text h = tt

pub returns-in_err-first-clause-none : goal.returns-in_err-first-clause-none
returns-in_err-first-clause-none g c =
    refused _ (λ (a : g.row.A.Denot × g.row.B.Denot). g.A.Fields.fits a.0 × g.B.Fields.fits a.1) (λ (a : g.row.A.Denot × g.row.B.Denot). g.A.Fields.spelling a.0 ++ 32 ∷ g.B.Fields.spelling a.1) c.args.text.now (λ a f e. no_cut 32 c.args.text.now (g.A.Fields.spelling a.0) (g.B.Fields.spelling a.1) c.in_err-first.ensures.sides e)

pub returns-in_err-read-clause-none : goal.returns-in_err-read-clause-none
returns-in_err-read-clause-none g c =
    refused _ (λ (a : g.row.A.Denot × g.row.B.Denot). g.A.Fields.fits a.0 × g.B.Fields.fits a.1) (λ (a : g.row.A.Denot × g.row.B.Denot). g.A.Fields.spelling a.0 ++ 32 ∷ g.B.Fields.spelling a.1) c.args.text.now (λ a f e.
    let s = same_cut 32 c.in_ok-first.first.now (g.A.Fields.spelling a.0) c.in_ok-first.second.now (g.B.Fields.spelling a.1) c.in_ok-first.ensures.sides.1 (g.met.A.Word.one_word a.0 f.0) (sym c.in_ok-first.ensures.sides.0 ∙ e) in
    c.in_err-read.ensures.none a.0 f.0 s.front)

pub returns-in_err-read-2-clause-none : goal.returns-in_err-read-2-clause-none
returns-in_err-read-2-clause-none g c =
    refused _ (λ (a : g.row.A.Denot × g.row.B.Denot). g.A.Fields.fits a.0 × g.B.Fields.fits a.1) (λ (a : g.row.A.Denot × g.row.B.Denot). g.A.Fields.spelling a.0 ++ 32 ∷ g.B.Fields.spelling a.1) c.args.text.now (λ a f e.
    let s = same_cut 32 c.in_ok-first.first.now (g.A.Fields.spelling a.0) c.in_ok-first.second.now (g.B.Fields.spelling a.1) c.in_ok-first.ensures.sides.1 (g.met.A.Word.one_word a.0 f.0) (sym c.in_ok-first.ensures.sides.0 ∙ e) in
    c.in_err-read-2.ensures.none a.1 f.1 s.following)
