-- What lines of a course say that other clients do to messages.
use Rattle.std.proofs.Common.{◌≡◌, ℕ, Bool, true, false, eqb, List, [], ◌∷◌, ◌++◌, length, take, drop, cond, inl, inr, sym, ap, ◌∙◌}
use Rattle.std.specs.Prelude.{Result, Ok, Err, OnOk, codes}
use Rattle.std.specs.Cmp.Lexicographic.{pointwise}
use Rattle.texts.proofs.StartLemmas.{starts}
use Rattle.mailcore.specs.FlagNames.{letters_of}
use Rattle.mailcore.specs.Words.{flags_word}
use Rattle.mem_link.specs.declared.acts.MessageDeed.TheVariants as deeds
use Rattle.worlds.specs.PlanLines.{change_text}
use Rattle.run_trial.specs.declared.act.Acting.{Acting}
use Rattle.run_trial.specs.declared.act.TrialActs.{TrialActs}
use Rattle.run_trial.specs.Acting.{IsActing}
use Rattle.run_trial.specs.ActLines.{target_text}
use Rattle.run_trial.specs.CourseLines.{Adds, AddsAct, AddsFlags, Said, with_acts}

-- what is noted of flags, where it is noted
module _ {E : Type 0} (text : List ℕ) (acting : Acting) (uid : ℕ) (old new : TrialActs) (is : IsActing text acting) where
  pub flags_add : (set clear : ℕ) (r : Result (Unit {0}) E) → target_text uid (deeds.Flag set clear) ≡ acting.target.now
      → OnOk r ((said : Said) (t : List ℕ) → IsActing t acting → target_text uid (deeds.Flag set clear) ≡ acting.target.now
      → AddsAct (deeds.Flag set clear) t (with_acts old said) (with_acts new said))
      → OnOk r ((said : Said) → AddsFlags text (with_acts old said) (with_acts new said))
  flags_add set clear (Ok done) target adds = λ said. record { set = set; clear = clear; adds = adds said text is target }
  flags_add set clear (Err fault) target adds = tt

-- what a line says after `flag`, and after `remove`
module _ {E : Type 0} (line text : List ℕ) (old new : TrialActs) (said : Said) (r : Result (Unit {0}) E) where
  pub flag_line_adds : pointwise eqb (take (length (codes "flag ")) line) (codes "flag ") ≡ true → text ≡ drop (length (codes "flag ")) line
      → OnOk r ((s : Said) → AddsFlags text (with_acts old s) (with_acts new s)) → OnOk r (Adds line (with_acts old said) (with_acts new said))
  flag_line_adds same is adds = on_ok r (λ given. inr (inr (inr (inl (record { text = text; begins = starts (codes "flag ") line text same is; says = given said }))))) adds
    where
      on_ok : {P Q : Type 0} (r : Result (Unit {0}) E) → (P → Q) → OnOk r P → OnOk r Q
      on_ok (Ok done) f p = f p
      on_ok (Err fault) f p = tt

  pub remove_line_adds : pointwise eqb (take (length (codes "remove ")) line) (codes "remove ") ≡ true → text ≡ drop (length (codes "remove ")) line
      → OnOk r ((s : Said) → AddsAct deeds.Remove text (with_acts old s) (with_acts new s)) → OnOk r (Adds line (with_acts old said) (with_acts new said))
  remove_line_adds same is adds = on_ok r (λ given. inr (inr (inr (inr (inl (record { text = text; begins = starts (codes "remove ") line text same is; says = given said })))))) adds
    where
      on_ok : {P Q : Type 0} (r : Result (Unit {0}) E) → (P → Q) → OnOk r P → OnOk r Q
      on_ok (Ok done) f p = f p
      on_ok (Err fault) f p = tt

-- ---- the words of flags

-- flags after a sign, where there are some
pub after_sign : (sign rest word : List ℕ) (flags : ℕ) → word ≡ sign ++ rest → flags_word flags ≡ rest → (eqb flags 0) ≡ false → change_text (32 ∷ sign) flags ≡ 32 ∷ word
after_sign sign rest word flags parts spelled some =
    ap (λ (b : Bool). cond b [] ((32 ∷ sign) ++ letters_of flags)) some
    ∙ ap (λ (t : List ℕ). 32 ∷ (sign ++ t)) (sym (ap (λ (b : Bool). cond b (codes "-") (letters_of flags)) some) ∙ spelled)
    ∙ ap (λ (t : List ℕ). 32 ∷ t) (sym parts)
