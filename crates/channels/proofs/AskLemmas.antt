-- What stores are asked for, one thing after another.
use Rattle.std.proofs.Common.{◌≡◌, ℕ, ◌+◌, ◌<◌, true, false, List, [], ◌∷◌, ◌++◌, Result, Ok, Err, IfOk, get_or, take, length, refl, ap, sym, ◌∙◌, subst, arith}
use Rattle.std.proofs.lemmas.Grind.{common_steps, fold-append}
use Rattle.std.proofs.lemmas.List.{take_more}
use Rattle.std.specs.List.{flat_map, fold}
use Rattle.rules.specs.declared.options.Options.{Options}
use Rattle.rules.specs.declared.options.Sides.{Sides}
use Rattle.config.specs.declared.config.Config.{Config}
use Rattle.channels.specs.Scope.{options_of}
use Rattle.channels.specs.Asked.{Asked, IsJoined, Joined}
use Rattle.channels.specs.declared.verdict.Verdict.{Verdict}
use Rattle.channels.specs.declared.verdict.Verdict.TheVariants.{Clean, Faulty, Over}
use Rattle.channels.specs.Asks.{GoesAt, GoesBy, GoesOver, Lists, Settles, Ways, box_asked, boxes_asked}
use Rattle.channels.specs.Founds.{absent_in}
use Rattle.channels.specs.Verdicts.{both}
use Rattle.channels.proofs.StreamLemmas.{reported_is_reported}

-- no fault was reported of both only where none was reported of either
pub both_clean : (verdict later : Verdict) → both verdict later ≡ Clean → (verdict ≡ Clean) × (later ≡ Clean)
both_clean verdict Clean e = (e, refl)
both_clean verdict Faulty e = absurd (reported_is_reported Faulty tt e)
both_clean verdict Over e = absurd (reported_is_reported Over tt e)

-- one item more of a list
pub flat_map_next : {X A : Type 0} (f : X → List A) (xs : List X) (i : ℕ) (x : X) → i < length xs → x ≡ get_or xs i x
    → flat_map f (take (i + 1) xs) ≡ flat_map f (take i xs) ++ f x
flat_map_next f xs i x l e = grind (arith, common_steps)

-- one mailbox more
pub boxes_asked-next : {L : Type 0} (noted : L → Asked → L) (options : Options) (of : Joined) (fars nears names : List (List ℕ)) (i : ℕ)
    (name : List ℕ) (absent : Sides) (first middle last : L) → i < length names → name ≡ get_or names i name → absent ≡ absent_in fars nears name name
    → middle ≡ fold noted first (boxes_asked options of fars nears (take i names))
    → last ≡ fold noted middle (box_asked options (record { of = of; far = name; near = name }) absent)
    → last ≡ fold noted first (boxes_asked options of fars nears (take (i + 1) names))
boxes_asked-next noted options of fars nears names i name absent first middle last l e a h k =
    let asked : List ℕ → List Asked = λ n. box_asked options (record { of = of; far = n; near = n }) (absent_in fars nears n n) in
    k ∙ ap (λ sides. fold noted middle (box_asked options (record { of = of; far = name; near = name }) sides)) a
    ∙ ap (λ was. fold noted was (asked name)) h
    ∙ sym (fold-append noted first (flat_map asked (take i names)) (asked name))
    ∙ ap (λ more. fold noted first more) (sym (flat_map_next asked names i name l e))

-- a channel that is listed, and one that is run
pub IfOk-listed : {L E : Type 0} (noted : L → Asked → L) (config : Config) (ways : Ways) (place : ℕ) (of : Joined) (old new : L)
    (result : Result Verdict E) → IsJoined config place of → ways.lists ≡ true
    → IfOk result (λ v. v ≡ Clean → Lists noted of of.channel.boxes old new)
    → IfOk result (λ v. v ≡ Clean → GoesAt noted config ways place old new)
IfOk-listed noted config ways place of old new (Ok v) joined e h = λ clean. record {
  of = of;
  joined = joined;
  goes = subst (λ b. GoesBy noted b (options_of of.channel ways.cells ways.expunges) of old new) (sym e) (h clean);
}
IfOk-listed noted config ways place of old new (Err fault) joined e h = tt

pub IfOk-settled : {L E : Type 0} (noted : L → Asked → L) (config : Config) (ways : Ways) (place : ℕ) (of : Joined) (options : Options) (old new : L)
    (result : Result Verdict E) → IsJoined config place of → ways.lists ≡ false → options ≡ options_of of.channel ways.cells ways.expunges
    → IfOk result (λ v. v ≡ Clean → Settles noted options of old new)
    → IfOk result (λ v. v ≡ Clean → GoesAt noted config ways place old new)
IfOk-settled noted config ways place of options old new (Ok v) joined e o h = λ clean. record {
  of = of;
  joined = joined;
  goes = subst (λ b. GoesBy noted b (options_of of.channel ways.cells ways.expunges) of old new) (sym e)
      (subst (λ chosen. Settles noted chosen of old new) o (h clean));
}
IfOk-settled noted config ways place of options old new (Err fault) joined e o h = tt

-- one channel more
pub GoesOver-more : {L : Type 0} (noted : L → Asked → L) (config : Config) (ways : Ways) (places : List ℕ) (place : ℕ) (first then last : L)
    → GoesOver noted config ways places first then → GoesAt noted config ways place then last
    → GoesOver noted config ways (places ++ place ∷ []) first last
GoesOver-more noted config ways [] place first then last h k = (last, subst (λ l. GoesAt noted config ways place l last) h k, refl)
GoesOver-more noted config ways (p ∷ ps) place first then last h k =
    (h.0, h.1, GoesOver-more noted config ways ps place h.0 then last h.2 k)

-- the next of several
pub GoesOver-next : {L : Type 0} (noted : L → Asked → L) (config : Config) (ways : Ways) (places items : List ℕ) (i : ℕ) (first middle last : L)
    → items ≡ places → i < length items → GoesOver noted config ways (take i places) first middle
    → GoesAt noted config ways (get_or items i 0) middle last → GoesOver noted config ways (take (i + 1) places) first last
GoesOver-next noted config ways places items i first middle last e l h k =
    let there : i < length places = subst (λ (xs : List ℕ). i < length xs) e l in
    let next : GoesAt noted config ways (get_or places i 0) middle last = subst (λ (xs : List ℕ). GoesAt noted config ways (get_or xs i 0) middle last) e k in
    rw (take_more places i 0 there) (GoesOver-more noted config ways (take i places) (get_or places i 0) first middle last h next)
