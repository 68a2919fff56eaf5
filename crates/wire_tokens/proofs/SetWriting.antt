-- Items that are written one after another.
use Rattle.std.proofs.Common.{◌≡◌, ℕ, ◌+◌, ◌<◌, List, [], ◌∷◌, ◌++◌, length, take, get_or, refl, sym, ap, subst, ◌∙◌, append_assoc, arith}
use Rattle.std.proofs.lemmas.List.{append-nil, length-take, take_more}
use Rattle.wire_reader.specs.Spelling.{ItemsText}
use Rattle.wire_tokens.specs.Writing.{Appended, Extended}

module _ {A : Type 0} (sep : ℕ) (L : A → List ℕ → Type 0) where
  -- the items that were written after what stood there
  abbrev pub Written : List A → List ℕ → List ℕ → Type 0
  Written [] old new = new ≡ old
  Written (a ∷ others) old new = Appended (ItemsText sep L (a ∷ others)) old new

  pub written_extends : (items : List A) (old new : List ℕ) → Written items old new → Extended old new
  written_extends [] old new h = record { text = []; parts = h ∙ sym (append-nil old); spelled = tt }
  written_extends (a ∷ others) old new h = record { text = h.text; parts = h.parts; spelled = tt }

  pub written_all : (items : List A) (old new : List ℕ) → 0 < length items → Written items old new → Appended (ItemsText sep L items) old new
  written_all [] old new some h = absurd (omega (arith, some))
  written_all (a ∷ others) old new some h = h

  -- an item more after the last
  items_push : (others : List A) (b a : A) (t u : List ℕ) → ItemsText sep L (b ∷ others) t → L a u → ItemsText sep L (b ∷ (others ++ a ∷ [])) (t ++ sep ∷ u)
  items_push [] b a t u h g = record { front = t; back = sep ∷ u; parts = refl; first = h; second = record { front = sep ∷ []; back = u; parts = refl; first = refl; second = g } }
  items_push (c ∷ others) b a t u h g =
      let j = h.second in
      record {
        front = h.front;
        back = j.front ++ (j.back ++ sep ∷ u);
        parts = ap (λ (y : List ℕ). y ++ sep ∷ u) (h.parts ∙ ap (λ (y : List ℕ). h.front ++ y) j.parts) ∙ append_assoc h.front (j.front ++ j.back) (sep ∷ u) ∙ ap (λ (y : List ℕ). h.front ++ y) (append_assoc j.front j.back (sep ∷ u));
        first = h.first;
        second = record { front = j.front; back = j.back ++ sep ∷ u; parts = refl; first = j.first; second = items_push others c a j.back u j.second g };
      }

  -- the first item, and one after others with the separator between
  first_written : (a : A) (old mid new : List ℕ) → mid ≡ old → Appended (L a) mid new → Written (a ∷ []) old new
  first_written a old mid new e h = record { text = h.text; parts = h.parts ∙ ap (λ (y : List ℕ). y ++ h.text) e; spelled = h.spelled }

  next_written : (b a : A) (others : List A) (old mid new : List ℕ) → Written (b ∷ others) old mid → Appended (L a) (mid ++ sep ∷ []) new → Written (b ∷ (others ++ a ∷ [])) old new
  next_written b a others old mid new w h = record {
    text = w.text ++ sep ∷ h.text;
    parts = h.parts ∙ append_assoc mid (sep ∷ []) h.text ∙ ap (λ (y : List ℕ). y ++ sep ∷ h.text) w.parts ∙ append_assoc old w.text (sep ∷ h.text);
    spelled = items_push others b a w.text h.text w.spelled h.spelled;
  }

  -- what stands before the next item
  abbrev separated : List A → List ℕ → List ℕ
  separated [] mid = mid
  separated (b ∷ others) mid = mid ++ sep ∷ []

  separated-some : (front : List A) (mid : List ℕ) → 0 < length front → mid ++ sep ∷ [] ≡ separated front mid
  separated-some [] mid some = absurd (omega (arith, some))
  separated-some (b ∷ others) mid some = refl

  written_push : (front : List A) (a : A) (old mid new : List ℕ) → Written front old mid → Appended (L a) (separated front mid) new → Written (front ++ a ∷ []) old new
  written_push [] a old mid new w h = first_written a old mid new w h
  written_push (b ∷ others) a old mid new w h = next_written b a others old mid new w h

  written_more : (items : List A) (i : ℕ) (a : A) (old mid new : List ℕ) → i < length items → a ≡ get_or items i a → Written (take i items) old mid → Appended (L a) (separated (take i items) mid) new → Written (take (i + 1) items) old new
  written_more items i a old mid new lt is w h =
      subst (λ (xs : List A). Written xs old new) (sym (take_more items i a lt ∙ ap (λ (x : A). take i items ++ x ∷ []) (sym is))) (written_push (take i items) a old mid new w h)

  pub written_first : (items : List A) (i : ℕ) (a : A) (old mid new : List ℕ) → i ≡ 0 → i < length items → a ≡ get_or items i a → Written (take i items) old mid → Appended (L a) mid new → Written (take (i + 1) items) old new
  written_first items i a old mid new z lt is w h =
      let e : mid ≡ separated (take i items) mid = ap (λ (n : ℕ). separated (take n items) mid) (sym z) in
      written_more items i a old mid new lt is w (subst (λ (m : List ℕ). Appended (L a) m new) e h)

  pub written_next : (items : List A) (i : ℕ) (a : A) (old mid new : List ℕ) → 0 < i → i < length items → a ≡ get_or items i a → Written (take i items) old mid → Appended (L a) (mid ++ sep ∷ []) new → Written (take (i + 1) items) old new
  written_next items i a old mid new pos lt is w h =
      let e = separated-some (take i items) mid (omega (arith, length-take i items, pos, lt)) in
      written_more items i a old mid new lt is w (subst (λ (m : List ℕ). Appended (L a) m new) e h)
