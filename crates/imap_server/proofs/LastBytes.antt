-- The last three bytes of a line that is dropped, and its end.
use Rattle.std.proofs.Common.{◌≡◌, ℕ, zero, suc, ◌+◌, ◌<◌, ◌≤◌, true, false, List, [], ◌∷◌, ◌++◌, length, take, drop, get_or, slice_index_or, codes, Some, refl, sym, ap, subst, ◌∙◌, append_assoc, append-nil, arith}
use Rattle.std.specs.Prelude.{nat_eq}
use Rattle.std.specs.Cmp.Lexicographic.{pointwise}
use Rattle.std.proofs.lemmas.Bool.{true≢false, eqb-true, and_parts}
use Rattle.std.proofs.Math.Seq.{take-suc}
use Rattle.std.proofs.lemmas.List.{length-append}
use Rattle.wire_reader.specs.Spelling.{crlf}
use Rattle.imap_session.specs.Portions.{LineFault, Syntax, LiteralTooLong, OctetsFollow}
use Rattle.imap_session.specs.Unread.{last_three}
use Rattle.imap_server.specs.Dropping.{Tail, Passes, loses_octets}

-- ---- the last of some bytes

pub record LastIs (text : List ℕ) : Type 0 where
  pub front : List ℕ
  pub byte : ℕ
  pub parts : text ≡ front ++ byte ∷ []

pub last_is : (b : ℕ) (bs : List ℕ) → LastIs (b ∷ bs)
last_is b [] = record { front = []; byte = b; parts = refl }
last_is b (c ∷ cs) = let l = last_is c cs in record { front = b ∷ l.front; byte = l.byte; parts = ap (λ (x : List ℕ). b ∷ x) l.parts }

no_more : (a : List ℕ) (b : ℕ) → [] ≡ a ++ b ∷ [] → ⊥
no_more [] b e = cc
no_more (x ∷ a) b e = cc

pub record SameLast (a b : List ℕ) (c d : ℕ) : Type 0 where
  pub fronts : a ≡ b
  pub bytes : c ≡ d

pub same_last : (a b : List ℕ) (c d : ℕ) → a ++ c ∷ [] ≡ b ++ d ∷ [] → SameLast a b c d
same_last [] [] c d e = let same : c ≡ d = cc in record { fronts = refl; bytes = same }
same_last [] (y ∷ b) c d e = let tail : [] ≡ b ++ d ∷ [] = cc in absurd (no_more b d tail)
same_last (x ∷ a) [] c d e = let tail : [] ≡ a ++ c ∷ [] = cc in absurd (no_more a c tail)
same_last (x ∷ a) (y ∷ b) c d e =
    let head : x ≡ y = cc in
    let tail : a ++ c ∷ [] ≡ b ++ d ∷ [] = cc in
    let s = same_last a b c d tail in
    record { fronts = ap (λ (z : ℕ). z ∷ a) head ∙ ap (λ (l : List ℕ). y ∷ l) s.fronts; bytes = s.bytes }

-- ---- the last three

cut : (n : ℕ) (a : List ℕ) (b : ℕ) → n ≤ length a → drop n (a ++ b ∷ []) ≡ drop n a ++ b ∷ []
cut zero a b h = refl
cut (suc n) [] b h = absurd (omega (arith, h))
cut (suc n) (c ∷ a) b h = cut n a b (omega (arith, h))

drop_one : (n x : ℕ) (a rest : List ℕ) → drop n a ≡ x ∷ rest → drop (suc n) a ≡ rest
drop_one zero x [] rest e = cc
drop_one zero x (c ∷ a) rest e = cc
drop_one (suc n) x [] rest e = cc
drop_one (suc n) x (c ∷ a) rest e = drop_one n x a rest e

dropped_is : (w : List ℕ) → last_three w ≡ drop (length w) (0 ∷ 0 ∷ 0 ∷ w)
dropped_is w = ap (λ (n : ℕ). drop n (0 ∷ 0 ∷ 0 ∷ w)) (omega arith)

-- one byte more
pub last_more : (w : List ℕ) (b x y z : ℕ) → last_three w ≡ x ∷ y ∷ z ∷ [] → last_three (w ++ b ∷ []) ≡ y ∷ z ∷ b ∷ []
last_more w b x y z e =
    let line : List ℕ = 0 ∷ 0 ∷ 0 ∷ w in
    let count : length (w ++ b ∷ []) ≡ suc (length w) = omega (arith, length-append w (b ∷ [])) in
    dropped_is (w ++ b ∷ []) ∙ ap (λ (n : ℕ). drop n (line ++ b ∷ [])) count ∙ cut (suc (length w)) line b (omega arith)
    ∙ ap (λ (l : List ℕ). l ++ b ∷ []) (drop_one (length w) x line (y ∷ z ∷ []) (sym (dropped_is w) ∙ e))

pub record Three (w : List ℕ) : Type 0 where
  pub x : ℕ
  pub y : ℕ
  pub z : ℕ
  pub are : last_three w ≡ x ∷ y ∷ z ∷ []

pub three : (w : List ℕ) → Three w
three w = along [] w (record { x = 0; y = 0; z = 0; are = refl })
  where
    along : (a rest : List ℕ) → Three a → Three (a ++ rest)
    along a [] t = subst Three (sym (append-nil a)) t
    along a (c ∷ cs) t =
        subst Three (append_assoc a (c ∷ []) cs)
        (along (a ++ c ∷ []) cs (record { x = t.y; y = t.z; z = c; are = last_more a c t.x t.y t.z t.are }))

-- the last of them is the last byte
pub record EndsWith (w : List ℕ) (x y z : ℕ) : Type 0 where
  pub front : List ℕ
  pub parts : w ≡ front ++ z ∷ []
  pub t : ℕ
  pub before : last_three front ≡ t ∷ x ∷ y ∷ []

pub ends_with : (w : List ℕ) (x y z : ℕ) → last_three w ≡ x ∷ y ∷ suc z ∷ [] → EndsWith w x y (suc z)
ends_with [] x y z e = cc
ends_with (b ∷ bs) x y z e =
    let l = last_is b bs in
    let t = three l.front in
    let same : t.y ∷ t.z ∷ l.byte ∷ [] ≡ x ∷ y ∷ suc z ∷ [] = sym (last_more l.front l.byte t.x t.y t.z t.are) ∙ ap last_three (sym l.parts) ∙ e in
    let third : l.byte ≡ suc z = cc in
    let first : t.y ≡ x = cc in
    let second : t.z ≡ y = cc in
    record {
      front = l.front;
      parts = l.parts ∙ ap (λ (c : ℕ). l.front ++ c ∷ []) third;
      t = t.x;
      before = t.are ∙ ap (λ (c : ℕ). t.x ∷ c ∷ t.z ∷ []) first ∙ ap (λ (c : ℕ). t.x ∷ x ∷ c ∷ []) second;
    }

-- ---- the end of the line

pub no_bytes : Tail [] (0 ∷ 0 ∷ 0 ∷ [])
no_bytes = record { no_end = λ a b e. nowhere a b e; last_is = refl }
  where
    nowhere : (a b : List ℕ) → [] ≡ a ++ (crlf ++ b) → ⊥
    nowhere [] b e = cc
    nowhere (x ∷ a) b e = cc

-- where a line end stands in these bytes, it stands in the front, or is last
pub data CrlfIn (w : List ℕ) (b : ℕ) (a c : List ℕ) : Type 0 where
  Before : (d : List ℕ) → w ≡ a ++ (crlf ++ d) → CrlfIn w b a c
  Last : w ≡ a ++ 13 ∷ [] → b ≡ 10 → c ≡ [] → CrlfIn w b a c

pub crlf_in : (w : List ℕ) (b : ℕ) (a c : List ℕ) → w ++ b ∷ [] ≡ a ++ (crlf ++ c) → CrlfIn w b a c
crlf_in w b a [] e =
    let s = same_last w (a ++ 13 ∷ []) b 10 (e ∙ sym (append_assoc a (13 ∷ []) (10 ∷ []))) in
    Last s.fronts s.bytes refl
crlf_in w b a (d ∷ ds) e =
    let l = last_is d ds in
    let parts : w ++ b ∷ [] ≡ (a ++ (crlf ++ l.front)) ++ l.byte ∷ [] =
    e ∙ ap (λ (x : List ℕ). a ++ (crlf ++ x)) l.parts ∙ sym (append_assoc a (crlf ++ l.front) (l.byte ∷ [])) in
    Before l.front (same_last w (a ++ (crlf ++ l.front)) b l.byte parts).fronts

-- a byte that ends no line
pub tail_more : (w : List ℕ) (b x y z : ℕ) → Tail w (x ∷ y ∷ z ∷ []) → (b ≡ 10 → z ≡ 13 → ⊥) → Tail (w ++ b ∷ []) (y ∷ z ∷ b ∷ [])
tail_more w b x y z t other = record {
  no_end = λ a c e. elim (crlf_in w b a c e) [
    | Before d is ↦ t.no_end a d is
    | Last is ten none ↦
        let u = three a in
        let same : x ∷ y ∷ z ∷ [] ≡ u.y ∷ u.z ∷ 13 ∷ [] = t.last_is ∙ ap last_three is ∙ last_more a 13 u.x u.y u.z u.are in
        let third : z ≡ 13 = cc in
        other ten third
  ];
  last_is = sym (last_more w b x y z (sym t.last_is));
}

-- ---- octets that follow

pub octets_follow : (fault : LineFault) (w last : List ℕ) → last_three w ≡ last → loses_octets fault last ≡ true → OctetsFollow fault (w ++ 10 ∷ [])
octets_follow (Syntax tag) w last e h = absurd cc
octets_follow (LiteralTooLong tag) w last e h =
    let are : last_three w ≡ 43 ∷ 125 ∷ 13 ∷ [] = e ∙ same_bytes last (codes "+}\r") h in
    let a = ends_with w 43 125 12 are in
    let b = ends_with a.front a.t 43 124 a.before in
    let c = ends_with b.front b.t a.t 42 b.before in
    record {
      part = c.front;
      ends = ap (λ (l : List ℕ). l ++ 10 ∷ []) (a.parts ∙ ap (λ (l : List ℕ). l ++ 13 ∷ []) (b.parts ∙ ap (λ (l : List ℕ). l ++ 125 ∷ []) c.parts))
          ∙ append_assoc ((c.front ++ 43 ∷ []) ++ 125 ∷ []) (13 ∷ []) (10 ∷ []) ∙ append_assoc (c.front ++ 43 ∷ []) (125 ∷ []) (13 ∷ 10 ∷ []) ∙ append_assoc c.front (43 ∷ []) (125 ∷ 13 ∷ 10 ∷ []);
    }
  where
    same_bytes : (a b : List ℕ) → pointwise nat_eq a b ≡ true → a ≡ b
    same_bytes [] [] h = refl
    same_bytes [] (y ∷ b) h = cc
    same_bytes (x ∷ a) [] h = cc
    same_bytes (x ∷ a) (y ∷ b) h = let p = and_parts _ _ h in ap (λ (c : ℕ). c ∷ a) (eqb-true x y p.0) ∙ ap (λ (l : List ℕ). y ∷ l) (same_bytes a b p.1)

pub no_octets_follow : (fault : LineFault) (w last : List ℕ) → last_three w ≡ last → loses_octets fault last ≡ false → OctetsFollow fault (w ++ 10 ∷ []) → ⊥
no_octets_follow (Syntax tag) w last e h o = o
no_octets_follow (LiteralTooLong tag) w last e h o =
    let parts : w ++ 10 ∷ [] ≡ (((o.part ++ 43 ∷ []) ++ 125 ∷ []) ++ 13 ∷ []) ++ 10 ∷ [] =
    o.ends ∙ sym (append_assoc ((o.part ++ 43 ∷ []) ++ 125 ∷ []) (13 ∷ []) (10 ∷ []) ∙ append_assoc (o.part ++ 43 ∷ []) (125 ∷ []) (13 ∷ 10 ∷ []) ∙ append_assoc o.part (43 ∷ []) (125 ∷ 13 ∷ 10 ∷ [])) in
    let is : w ≡ ((o.part ++ 43 ∷ []) ++ 125 ∷ []) ++ 13 ∷ [] = (same_last w _ 10 10 parts).fronts in
    let t = three o.part in
    let are : last_three w ≡ 43 ∷ 125 ∷ 13 ∷ [] =
    ap last_three is ∙ last_more ((o.part ++ 43 ∷ []) ++ 125 ∷ []) 13 t.z 43 125 (last_more (o.part ++ 43 ∷ []) 125 t.y t.z 43 (last_more o.part 43 t.x t.y t.z t.are)) in
    true≢false (sym (ap (λ (l : List ℕ). pointwise nat_eq l (codes "+}\r")) (sym e ∙ are)) ∙ h)

-- ---- along bytes

abbrev pub PassedSoFar : (old passed new : List ℕ) → Type 0
PassedSoFar old passed new = (before : List ℕ) → Tail before old → Tail (before ++ passed) new

pub passed_none : (old : List ℕ) → PassedSoFar old [] old
passed_none old before t = subst (λ (l : List ℕ). Tail l old) (sym (append-nil before)) t

pub passed_more : (old passed last more : List ℕ) (b : ℕ) → PassedSoFar old passed last → more ≡ passed ++ b ∷ [] → (b ≡ 10 → slice_index_or last 2 0 ≡ 13 → ⊥)
    → PassedSoFar old more (slice_index_or last 1 0 ∷ slice_index_or last 2 0 ∷ b ∷ [])
passed_more old passed last more b p is other before t =
    let was = p before t in
    let u = three (before ++ passed) in
    let same : last ≡ u.x ∷ u.y ∷ u.z ∷ [] = was.last_is ∙ u.are in
    let y : slice_index_or last 1 0 ≡ u.y = ap (λ (l : List ℕ). slice_index_or l 1 0) same in
    let z : slice_index_or last 2 0 ≡ u.z = ap (λ (l : List ℕ). slice_index_or l 2 0) same in
    let new_tail : Tail ((before ++ passed) ++ b ∷ []) (u.y ∷ u.z ∷ b ∷ []) = tail_more (before ++ passed) b u.x u.y u.z (subst (Tail (before ++ passed)) same was) (λ ten e. other ten (z ∙ e)) in
    subst (λ (l : List ℕ). Tail l (slice_index_or last 1 0 ∷ slice_index_or last 2 0 ∷ b ∷ [])) (append_assoc before passed (b ∷ []) ∙ ap (λ (l : List ℕ). before ++ l) (sym is))
    (subst (Tail ((before ++ passed) ++ b ∷ [])) (ap (λ (c : ℕ). c ∷ u.z ∷ b ∷ []) (sym y) ∙ ap (λ (c : ℕ). slice_index_or last 1 0 ∷ c ∷ b ∷ []) (sym z)) new_tail)

pub passed_end : (old passed next last : List ℕ) (b count : ℕ) → PassedSoFar old passed last → count ≤ length next → take count next ≡ passed ++ b ∷ [] → b ≡ 10 → slice_index_or last 2 0 ≡ 13 → Passes old next (Some count) last
passed_end old passed next last b count p within is ten cr before t =
    let was = p before t in
    let u = three (before ++ passed) in
    let same : last ≡ u.x ∷ u.y ∷ u.z ∷ [] = was.last_is ∙ u.are in
    record {
      front = passed;
      within = within;
      parts = is ∙ ap (λ (c : ℕ). passed ++ c ∷ []) ten;
      tail = was;
      x = u.x;
      y = u.y;
      return = same ∙ ap (λ (c : ℕ). u.x ∷ u.y ∷ c ∷ []) (sym (ap (λ (l : List ℕ). slice_index_or l 2 0) same) ∙ cr);
    }

pub next_taken : (bytes : List ℕ) (i : ℕ) → i < length bytes → take (i + 1) bytes ≡ take i bytes ++ get_or bytes i 0 ∷ []
next_taken bytes i h = let one : i + 1 ≡ suc i = omega arith in ap (λ (n : ℕ). take n bytes) one ∙ take-suc bytes i 0 h
