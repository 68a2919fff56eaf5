-- How far the messages reach that a set names.
use Rattle.std.proofs.Common.{◌≡◌, ◌<◌, ◌≤◌, ℕ, suc, ◌+◌, ◌⊎◌, Bool, true, false, leb, ltb, List, [], ◌∷◌, ◌++◌, length, map, take, drop, get_or, Option, None, Some, refl, sym, ◌∙◌, ap, subst, inl, inr, take-append-drop, length-drop, arith, if◌then◌else◌}
use Rattle.std.specs.Prelude.{All}
use Rattle.std.specs.List.{AllWithin}
use Rattle.std.specs.List.Sorted.{IsNonDecreasingBy}
use Rattle.std.proofs.lemmas.Bool.{cases_Bool, cases_lt, ltb-true, leb-false}
use Rattle.std.proofs.lemmas.List.{get_or-take, get_or-drop, length-take-le, map-append}
use Rattle.std.proofs.lemmas.List.Folds.{list_any_none}
use Rattle.mailcore.specs.declared.mailbox.Message.{Message}
use Rattle.mailcore.specs.Listed.{AreRising}
use Rattle.wire_tokens.specs.declared.uid_set.SetItem.{SetItem}
use Rattle.wire_tokens.specs.Sets.{item_names, names}
use Rattle.imap_commands.specs.declared.command.StoreMode.{StoreMode}
use Rattle.imap_session.specs.Changing.{new_flags, given}
use Rattle.imap_session.specs.Naming.{IsTop, IsBetween, AreBetween, IsReach}

-- ---- outside of the ends nothing is named

item_unnamed : (item : SetItem) (top low high uid : ℕ) → IsBetween top low high item → (uid < low) ⊎ (high < uid) → item_names top uid item ≡ false
item_unnamed item top low high uid between out = elim (cases_Bool (item_names top uid item)) [
  | inl named ↦ let ends = between uid named in
      let least = ends.0 in
      let most = ends.1 in
      absurd (elim out [ inl below ↦ omega arith | inr above ↦ omega arith ])
  | inr unnamed ↦ unnamed
]

outside_unnamed : (set : List SetItem) (top low high uid : ℕ) → AreBetween top low high set → (uid < low) ⊎ (high < uid) → (most : Option ℕ) → IsTop most top → names most set uid ≡ false
outside_unnamed set top low high uid between out None is = refl
outside_unnamed set top low high uid between out (Some n) is =
    ap (λ (k : ℕ). names (Some k) set uid) (sym is.0)
    ∙ list_any_none (item_names top uid) set (λ k d within. item_unnamed (get_or set k d) top low high uid (between k d within) out)

pub rising_by_uid : (ms : List Message) → AreRising ms → IsNonDecreasingBy (λ (m : Message). m.uid) ms
rising_by_uid ms rising i j d order within = elim (cases_lt i j) [
  | inl less ↦ let above = rising i j d less within in omega arith
  | inr at_least ↦ let same : i ≡ j = omega arith in
      let alike : (get_or ms i d).uid ≡ (get_or ms j d).uid = ap (λ (k : ℕ). (get_or ms k d).uid) same in
      omega arith
]

-- where the messages below the lower end stop, and those above the upper one start
pub reach_of : (set : List SetItem) (top low high : ℕ) (ms : List Message) (start stop end : ℕ) → AreBetween top low high set
    → AllWithin (λ (m : Message). ltb m.uid low ≡ true) ms 0 start → AllWithin (λ (m : Message). leb m.uid high ≡ false) ms stop (length ms)
    → stop ≤ end → (most : Option ℕ) → IsTop most top → IsReach (names most set) ms start end
reach_of set top low high ms start stop end between below above later most is = record {
  front = λ k d from to. outside_unnamed set top low high (get_or ms k d).uid between (inl (ltb-true (get_or ms k d).uid low (below k d from to))) most is;
  back = λ k d from to. outside_unnamed set top low high (get_or ms k d).uid between (inr (leb-false (get_or ms k d).uid high (above k d (omega arith) to))) most is;
}

-- ---- the messages before and after

pub unnamed_before : (named : ℕ → Bool) (ms : List Message) (start end : ℕ) → IsReach named ms start end → start ≤ length ms → All (λ (m : Message). named m.uid ≡ false) (take start ms)
unnamed_before named ms start end reach inside k d within =
    let long : length (take start ms) ≡ start = length-take-le start ms inside in
    ap (λ (m : Message). named m.uid) (get_or-take start ms k d (omega arith)) ∙ reach.front k d (omega arith) (omega arith)

-- from a place after the last one on
pub unnamed_after : (named : ℕ → Bool) (ms : List Message) (start end place : ℕ) → IsReach named ms start end → end ≤ place → All (λ (m : Message). named m.uid ≡ false) (drop place ms)
unnamed_after named ms start end place reach following k d within =
    let long = length-drop place ms in
    ap (λ (m : Message). named m.uid) (get_or-drop place ms k d) ∙ reach.back (place + k) d (omega arith) (omega arith)

-- ---- UID STORE leaves them

module _ (named : ℕ → Bool) (mode : StoreMode) (flags : ℕ) where
  none_given : (ms : List Message) → All (λ (m : Message). named m.uid ≡ false) ms → map (given named mode flags) ms ≡ ms
  none_given [] unnamed = refl
  none_given (m ∷ ms) unnamed =
      ap (λ (b : Bool). (if b then record m { flags = new_flags mode flags m.flags } else m) ∷ map (given named mode flags) ms) (unnamed 0 m (omega arith))
      ∙ ap (λ (l : List Message). m ∷ l) (none_given ms (λ k d within. unnamed (suc k) d (omega arith)))

  pub given_before : (ms : List Message) (start end : ℕ) → IsReach named ms start end → start ≤ length ms → ms ≡ map (given named mode flags) (take start ms) ++ drop start ms
  given_before ms start end reach inside =
      sym (ap (λ (l : List Message). l ++ drop start ms) (none_given (take start ms) (unnamed_before named ms start end reach inside)) ∙ take-append-drop start ms)

  pub given_within : (ms : List Message) (start end place : ℕ) → IsReach named ms start end → end ≤ place → map (given named mode flags) (take place ms) ++ drop place ms ≡ map (given named mode flags) ms
  given_within ms start end place reach following =
      ap (λ (l : List Message). map (given named mode flags) (take place ms) ++ l) (sym (none_given (drop place ms) (unnamed_after named ms start end place reach following)))
      ∙ sym (map-append (given named mode flags) (take place ms) (drop place ms))
      ∙ ap (map (given named mode flags)) (take-append-drop place ms)
