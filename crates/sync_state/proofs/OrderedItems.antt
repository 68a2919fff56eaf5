-- Items in the order of their places, walked over from the first one.
use Rattle.std.proofs.Common.{◌≡◌, ℕ, ◌+◌, ◌<◌, Bool, true, List, ◌∷◌, length, get_or, drop, map, sym, ap, ◌∙◌, subst}
use Rattle.std.specs.Prelude.{All, ◌&&◌}
use Rattle.std.proofs.lemmas.List.{drop_more, at_drop_more}
use Rattle.std.proofs.lemmas.List.Elements.{All-cons}
use Rattle.sync_state.specs.JournalText.{is_below, rises}

first_left : {A B : Type 0} (f : List A → B) (items : List A) (i : ℕ) (x : A) → i < length items → x ≡ get_or items i x → f (drop i items) ≡ f (x ∷ drop (i + 1) items)
first_left {A} f items i x within is = at_drop_more f items i x within ∙ ap (λ (y : A). f (y ∷ drop (i + 1) items)) (sym is)

-- an item that follows the last one
pub rises_past : {A : Type 0} (place : A → ℕ × ℕ × ℕ) (items : List A) (i : ℕ) (x : A) (last next : ℕ × ℕ × ℕ)
    → i < length items → x ≡ get_or items i x → next ≡ place x → is_below last next ≡ true
    → rises last (map place (drop i items)) ≡ rises next (map place (drop (i + 1) items))
rises_past {A} place items i x last next within is at below =
    first_left (λ ys. rises last (map place ys)) items i x within is
    ∙ ap (λ (p : ℕ × ℕ × ℕ). is_below last p && rises p (map place (drop (i + 1) items))) (sym at)
    ∙ ap (λ (b : Bool). b && rises next (map place (drop (i + 1) items))) below

pub fit_with : {A : Type 0} (fits : A → Type 0) (items : List A) (i : ℕ) (x : A)
    → i < length items → x ≡ get_or items i x → fits x → All fits (drop (i + 1) items) → All fits (drop i items)
fit_with {A} fits items i x within is fit rest =
    let parts : drop i items ≡ x ∷ drop (i + 1) items = drop_more items i x within ∙ ap (λ (y : A). y ∷ drop (i + 1) items) (sym is) in
    subst (λ (ys : List A). All fits ys) (sym parts) (All-cons fits x (drop (i + 1) items) fit rest)
