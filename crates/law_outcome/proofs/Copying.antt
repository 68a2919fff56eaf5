-- The steps that copy new messages, one after another.
use Rattle.std.proofs.Common.{◌≡◌, ℕ, ◌<◌, ◌≤◌, false, cond, List, [], ◌∷◌, ◌++◌, Option, Some, None, length, map, refl, sym, ap, ◌∙◌, subst, inl, inr, arith, append_assoc, append-nil}
use Rattle.std.specs.Prelude.{All, Contains, unwrap_or, ◌==◌}
use Rattle.std.specs.Option.{option_map}
use Rattle.std.proofs.lemmas.Bool.{false≢true, eq-eqb, ne_eqb, cond-true, cond-false}
use Rattle.std.proofs.lemmas.List.Elements.{All-head, All-tail}
use Rattle.mailcore.specs.declared.side.Side.{Side}
use Rattle.mailcore.specs.declared.side.Side.TheVariants.{Far, Near}
use Rattle.mailcore.specs.declared.side.Direction.{Direction}
use Rattle.mailcore.specs.declared.side.Direction.TheVariants.{Pull, Push}
use Rattle.mailcore.specs.declared.listing.Item.{Item}
use Rattle.mailcore.specs.declared.mailbox.Message.{Message}
use Rattle.mailcore.specs.Sides.{source, target}
use Rattle.mailcore.specs.Listed.{AreRising, item_of}
use Rattle.rules.specs.declared.plan.Step.{Step}
use Rattle.rules.specs.declared.plan.Step.TheVariants.{New, Gone, Flags, Expunge}
use Rattle.rules.specs.Copies.{copy_of, copies_under}
use Rattle.planner.specs.Written.{new_steps}
use Rattle.rules.proofs.Walks.{Contains-first, Contains-rest, Contains-cases, Contains-none, AllPairs-head, AllPairs-tail}
use Rattle.law_outcome.specs.Steps.{Boxes, box, with_box, bytes_at, after, makes_copy, Fit, uid_given, given}
use Rattle.law_outcome.proofs.Idle.{is_side-same}

-- ---- boxes

pub box-with : (b : Boxes) (side : Side) (ms : List Message) → box (with_box b side ms) side ≡ ms
box-with b Far ms = refl
box-with b Near ms = refl

pub with-with : (b : Boxes) (side : Side) (xs ys : List Message) → with_box (with_box b side xs) side ys ≡ with_box b side ys
with-with b Far xs ys = refl
with-with b Near xs ys = refl

pub with-own : (b : Boxes) (side : Side) → with_box b side (box b side) ≡ b
with-own b Far = refl
with-own b Near = refl

pub source-with : (b : Boxes) (d : Direction) (ms : List Message) → box (with_box b (target d) ms) (source d) ≡ box b (source d)
source-with b Pull ms = refl
source-with b Push ms = refl

-- ---- bytes

-- in a mailbox whose UIDs rise each message is found under its own, whatever follows
pub bytes_there : (ms ns : List Message) → AreRising ms → (m : Message) → Contains ms m → bytes_at m.uid (ms ++ ns) ≡ Some m.bytes
bytes_there [] ns rising m c = absurd (Contains-none m c)
bytes_there (z ∷ ms) ns rising m c = elim (Contains-cases z m ms c) [
  | inl same ↦ ap (λ (o : Option Message). option_map (λ (x : Message). x.bytes) o) (cond-true (z.uid == m.uid) (Some z) _ (eq-eqb z.uid m.uid (ap (λ (x : Message). x.uid) same)))
      ∙ ap (λ (x : Message). Some x.bytes) same
  | inr rest ↦ let less : z.uid < m.uid = AllPairs-head (λ (a b : Message). a.uid < b.uid) z ms rising m rest in
      ap (λ (o : Option Message). option_map (λ (x : Message). x.bytes) o) (cond-false (z.uid == m.uid) (Some z) _ (ne_eqb z.uid m.uid (omega arith)))
      ∙ bytes_there ms ns (AllPairs-tail (λ (a b : Message). a.uid < b.uid) z ms rising) m rest
]

-- ---- the copies

abbrev pub copies_of : Direction → List Message → (marks : List (List ℕ)) → List Step
copies_of d ms marks = new_steps d (map (item_of (source d)) ms) marks

pub uid_given-new : (d : Direction) (u flags : ℕ) (mark : List ℕ) (uid : ℕ) → uid_given (target d) (New d u flags mark) (Some uid) ≡ uid ∷ []
uid_given-new d u flags mark uid = ap (λ b. cond b (uid ∷ []) []) (is_side-same (target d))

-- each copy follows the messages of the target
pub copied_all : (d : Direction) (ms : List Message) (marks : List (List ℕ)) (results : List (Option ℕ)) (more : List Step) (b : Boxes) → length ms ≡ length marks → length (copies_of d ms marks) ≤ length results →
    Fit (copies_of d ms marks ++ more) results → ((m : Message) → Contains ms m → bytes_at m.uid (box b (source d)) ≡ Some m.bytes) →
    after (copies_of d ms marks) results b ≡ with_box b (target d) (box b (target d) ++ copies_under (target d) (given (target d) (copies_of d ms marks) results) marks ms)
copied_all d [] marks results more b l k f h = sym (ap (λ (xs : List Message). with_box b (target d) xs) (append-nil (box b (target d))) ∙ with-own b (target d))
copied_all d (m ∷ ms) [] results more b l k f h = absurd (omega arith)
copied_all d (m ∷ ms) (mark ∷ marks) [] more b l k f h = absurd (omega arith)
copied_all d (m ∷ ms) (mark ∷ marks) (None ∷ results) more b l k f h = absurd (false≢true f.0)
copied_all d (m ∷ ms) (mark ∷ marks) (Some uid ∷ results) more b l k f h =
    let side : Side = target d in
    let c : Message = copy_of side uid m.flags mark (unwrap_or (bytes_at m.uid (box b (source d))) []) in
    let c' : Message = copy_of side uid m.flags mark m.bytes in
    let same : c ≡ c' = ap (λ (o : Option (List ℕ)). copy_of side uid m.flags mark (unwrap_or o [])) (h m (Contains-first m ms)) in
    let b' : Boxes = with_box b side (box b side ++ c ∷ []) in
    let uids : List ℕ = given side (copies_of d ms marks) results in
    let rest : List Message = copies_under side uids marks ms in
    copied_all d ms marks results more b' (omega arith) (omega arith) f.1 (λ n e. ap (λ (xs : List Message). bytes_at n.uid xs) (source-with b d (box b side ++ c ∷ [])) ∙ h n (Contains-rest m n ms e))
    ∙ with-with b side (box b side ++ c ∷ []) (box b' side ++ rest)
    ∙ ap (λ (xs : List Message). with_box b side (xs ++ rest)) (box-with b side (box b side ++ c ∷ []))
    ∙ ap (λ (xs : List Message). with_box b side xs) (append_assoc (box b side) (c ∷ []) rest)
    ∙ ap (λ (x : Message). with_box b side (box b side ++ x ∷ rest)) same
    ∙ ap (λ (us : List ℕ). with_box b side (box b side ++ copies_under side (us ++ uids) (mark ∷ marks) (m ∷ ms))) (sym (uid_given-new d m.uid m.flags mark uid))

-- ---- whom the UIDs are given to

pub given_source : (d : Direction) (is : List Item) (marks : List (List ℕ)) (results : List (Option ℕ)) → given (source d) (new_steps d is marks) results ≡ []
given_source d [] marks results = refl
given_source d (i ∷ is) [] results = refl
given_source d (i ∷ is) (mark ∷ marks) [] = refl
given_source d (i ∷ is) (mark ∷ marks) (r ∷ results) = ap (λ (us : List ℕ). us ++ given (source d) (new_steps d is marks) results) (none d r) ∙ given_source d is marks results
  where
    none : (d : Direction) (r : Option ℕ) → uid_given (source d) (New d i.uid i.flags mark) r ≡ []
    none Pull None = refl
    none Pull (Some uid) = refl
    none Push None = refl
    none Push (Some uid) = refl

pub given-no_copies : (side : Side) (steps : List Step) (results : List (Option ℕ)) → All (λ s. makes_copy s ≡ false) steps → given side steps results ≡ []
given-no_copies side [] results h = refl
given-no_copies side (s ∷ steps) [] h = refl
given-no_copies side (s ∷ steps) (r ∷ results) h =
    ap (λ (us : List ℕ). us ++ given side steps results) (none s (All-head (λ t. makes_copy t ≡ false) s steps h))
    ∙ given-no_copies side steps results (All-tail (λ t. makes_copy t ≡ false) s steps h)
  where
    none : (s : Step) → makes_copy s ≡ false → uid_given side s r ≡ []
    none (New d u flags mark) e = absurd (false≢true (sym e))
    none (Gone d f n) e = refl
    none (Flags d f n set cleared) e = refl
    none (Expunge at u) e = refl

-- a copy has one of the UIDs
pub copied_uid : (side : Side) (uids : List ℕ) (marks : List (List ℕ)) (ms : List Message) (c : Message) → Contains (copies_under side uids marks ms) c → Contains uids c.uid
copied_uid side [] marks ms c h = absurd (Contains-none c h)
copied_uid side (u ∷ uids) [] ms c h = absurd (Contains-none c h)
copied_uid side (u ∷ uids) (mark ∷ marks) [] c h = absurd (Contains-none c h)
copied_uid side (u ∷ uids) (mark ∷ marks) (m ∷ ms) c h = elim (Contains-cases _ c (copies_under side uids marks ms) h) [
  | inl same ↦ subst (λ v. Contains (u ∷ uids) v) (ap (λ (x : Message). x.uid) same) (Contains-first u uids)
  | inr rest ↦ Contains-rest u c.uid uids (copied_uid side uids marks ms c rest)
]
