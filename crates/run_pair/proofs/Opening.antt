-- Which boxes are open, and what they have answered.
use Rattle.std.proofs.Common.{◌≡◌, ◌∙◌, ap, sym, refl, subst, ℕ, Bool, true, false, List, ◌∷◌, IsSome, Option, None, Some, Result, Ok, Err, OnOk, IfOk}
use Rattle.mailcore.specs.declared.side.Side.TheVariants as side
use Rattle.outside.specs.declared.box_fault.BoxFault.{BoxFault}
use Rattle.outside.specs.Devices.{Device}
use Rattle.outside.specs.Opened.{Opened}
use Rattle.outside.specs.Opened as opened
use Rattle.run_pair.specs.Kept.{Kept}
use Rattle.run_pair.specs.Parts.{answered, opened_with, validities_after}

some_open : (b : Bool) (vs : List ℕ) → IsSome (answered b vs) → b ≡ true
some_open false vs h = h
some_open true vs h = refl

pub far_open : (f : Bool) (vs : List ℕ) (n : Option ℕ) (l : List Device) (k : Option Kept) → opened.IsOpen side.Far (opened_with (answered f vs) n l k) → f ≡ true
far_open f vs n l None h = absurd h
far_open f vs n l (Some k) h = some_open f vs h

pub near_open : (f : Option ℕ) (n : Bool) (vs : List ℕ) (l : List Device) (k : Option Kept) → opened.IsOpen side.Near (opened_with f (answered n vs) l k) → n ≡ true
near_open f n vs l None h = absurd h
near_open f n vs l (Some k) h = some_open n vs h

-- ---- a box is opened

far_boxed : (f n : Option ℕ) (l : List Device) (k : Option Kept) (validity : ℕ) → opened_with (Some validity) n l k ≡ opened.with_box side.Far validity (opened_with f n l k)
far_boxed f n l None validity = refl
far_boxed f n l (Some k) validity = refl

near_boxed : (f n : Option ℕ) (l : List Device) (k : Option Kept) (validity : ℕ) → opened_with f (Some validity) l k ≡ opened.with_box side.Near validity (opened_with f n l k)
near_boxed f n l None validity = refl
near_boxed f n l (Some k) validity = refl

open_answered : (is_open : Bool) (validity : ℕ) (vs : List ℕ) → is_open ≡ true → answered is_open (validity ∷ vs) ≡ Some validity
open_answered is_open validity vs h = ap (λ (b : Bool). answered b (validity ∷ vs)) h

pub far_opened : (f : Option ℕ) (is_open : Bool) (vs vs' : List ℕ) (n : Option ℕ) (l : List Device) (k : Option Kept) (answer : Result ℕ BoxFault) → vs' ≡ validities_after answer vs → OnOk answer (is_open ≡ true)
    → IfOk answer (λ validity. opened_with (answered is_open vs') n l k ≡ opened.with_box side.Far validity (opened_with f n l k))
far_opened f is_open vs vs' n l k (Ok validity) e h = ap (λ (x : List ℕ). opened_with (answered is_open x) n l k) e ∙ ap (λ (x : Option ℕ). opened_with x n l k) (open_answered is_open validity vs h) ∙ far_boxed f n l k validity
far_opened f is_open vs vs' n l k (Err e) same h = tt

pub near_opened : (f n : Option ℕ) (is_open : Bool) (vs vs' : List ℕ) (l : List Device) (k : Option Kept) (answer : Result ℕ BoxFault) → vs' ≡ validities_after answer vs → OnOk answer (is_open ≡ true)
    → IfOk answer (λ validity. opened_with f (answered is_open vs') l k ≡ opened.with_box side.Near validity (opened_with f n l k))
near_opened f n is_open vs vs' l k (Ok validity) e h = ap (λ (x : List ℕ). opened_with f (answered is_open x) l k) e ∙ ap (λ (x : Option ℕ). opened_with f x l k) (open_answered is_open validity vs h) ∙ near_boxed f n l k validity
near_opened f n is_open vs vs' l k (Err e) same h = tt

-- ---- an open box stays open

pub far_stays : (f f' : Bool) (vs : List ℕ) (n : Option ℕ) (l : List Device) (k : Option Kept) → opened.IsOpen side.Far (opened_with (answered f vs) n l k) → f' ≡ true → opened_with (answered f' vs) n l k ≡ opened_with (answered f vs) n l k
far_stays f f' vs n l k was h = ap (λ (b : Bool). opened_with (answered b vs) n l k) (h ∙ sym (far_open f vs n l k was))

pub near_stays : (f : Option ℕ) (n n' : Bool) (vs : List ℕ) (l : List Device) (k : Option Kept) → opened.IsOpen side.Near (opened_with f (answered n vs) l k) → n' ≡ true → opened_with f (answered n' vs) l k ≡ opened_with f (answered n vs) l k
near_stays f n n' vs l k was h = ap (λ (b : Bool). opened_with f (answered b vs) l k) (h ∙ sym (near_open f n vs l k was))

pub both_stay : (f f' n n' : Bool) (vs ws : List ℕ) (l : List Device) (k : Option Kept) → opened.IsOpen side.Far (opened_with (answered f vs) (answered n ws) l k) → opened.IsOpen side.Near (opened_with (answered f vs) (answered n ws) l k)
    → f' ≡ true → n' ≡ true → opened_with (answered f' vs) (answered n' ws) l k ≡ opened_with (answered f vs) (answered n ws) l k
both_stay f f' n n' vs ws l k far near h h' = ap (λ (b : Bool). opened_with (answered b vs) (answered n' ws) l k) (h ∙ sym (far_open f vs (answered n ws) l k far)) ∙ near_stays (answered f vs) n n' ws l k near h'

-- ---- one listing more

far_more : (f n : Option ℕ) (is_open : Bool) (validity : ℕ) (vs : List ℕ) (l : List Device) (d : Device) (k : Option Kept) → is_open ≡ true
    → opened_with (answered is_open (validity ∷ vs)) n (d ∷ l) k ≡ opened.with_listing side.Far validity d (opened_with f n l k)
far_more f n is_open validity vs l d None h = refl
far_more f n is_open validity vs l d (Some k) h = ap (λ (x : Option ℕ). opened_with x n (d ∷ l) (Some k)) (open_answered is_open validity vs h)

near_more : (f n : Option ℕ) (is_open : Bool) (validity : ℕ) (vs : List ℕ) (l : List Device) (d : Device) (k : Option Kept) → is_open ≡ true
    → opened_with f (answered is_open (validity ∷ vs)) (d ∷ l) k ≡ opened.with_listing side.Near validity d (opened_with f n l k)
near_more f n is_open validity vs l d None h = refl
near_more f n is_open validity vs l d (Some k) h = ap (λ (x : Option ℕ). opened_with f x (d ∷ l) (Some k)) (open_answered is_open validity vs h)

pub far_listed : (is_open : Bool) (n : Option ℕ) (validity : ℕ) (vs vs' : List ℕ) (l l' : List Device) (d : Device) (k : Option Kept) (before : Option Opened) → opened_with (answered is_open vs) n l k ≡ before → opened.IsOpen side.Far before
    → vs' ≡ validity ∷ vs → l' ≡ d ∷ l → opened_with (answered is_open vs') n l' k ≡ opened.with_listing side.Far validity d before
far_listed is_open n validity vs vs' l l' d k before same was more last =
    let is : is_open ≡ true = far_open is_open vs n l k (subst (λ (o : Option Opened). opened.IsOpen side.Far o) (sym same) was) in
    ap (λ (x : List ℕ). opened_with (answered is_open x) n l' k) more ∙ ap (λ (x : List Device). opened_with (answered is_open (validity ∷ vs)) n x k) last
    ∙ far_more (answered is_open vs) n is_open validity vs l d k is ∙ ap (λ (o : Option Opened). opened.with_listing side.Far validity d o) same

pub near_listed : (f : Option ℕ) (is_open : Bool) (validity : ℕ) (vs vs' : List ℕ) (l l' : List Device) (d : Device) (k : Option Kept) (before : Option Opened) → opened_with f (answered is_open vs) l k ≡ before → opened.IsOpen side.Near before
    → vs' ≡ validity ∷ vs → l' ≡ d ∷ l → opened_with f (answered is_open vs') l' k ≡ opened.with_listing side.Near validity d before
near_listed f is_open validity vs vs' l l' d k before same was more last =
    let is : is_open ≡ true = near_open f is_open vs l k (subst (λ (o : Option Opened). opened.IsOpen side.Near o) (sym same) was) in
    ap (λ (x : List ℕ). opened_with f (answered is_open x) l' k) more ∙ ap (λ (x : List Device). opened_with f (answered is_open (validity ∷ vs)) x k) last
    ∙ near_more f (answered is_open vs) is_open validity vs l d k is ∙ ap (λ (o : Option Opened). opened.with_listing side.Near validity d o) same
