-- Names with a space between: the names of a text, and the steps of the loop over them.
use Rattle.std.proofs.Common.{◌≡◌, ℕ, suc, ◌+◌, ◌-◌, ◌<◌, Bool, true, false, not, List, [], ◌∷◌, ◌++◌, length, take, Result, Ok, Err, refl, sym, ap, subst, ◌∙◌, inl, inr, arith}
use Rattle.std.specs.List.{All, fold, list_all}
use Rattle.std.proofs.lemmas.Bool.{cases_Bool, eqb-true, true≢false, and_parts, and_from, not-true}
use Rattle.std.proofs.lemmas.List.Splits.{slice_split_none, slice_split_at}
use Rattle.std.proofs.lemmas.List.Sums.{AllPass-from_list_all}
use Rattle.wire_reader.specs.declared.stop.Stop.{Stop}
use Rattle.wire_reader.specs.declared.side.Speaker.TheVariants.{Commands}
use Rattle.wire_reader.specs.Reading.{◌>>=◌}
use Rattle.wire_reader.specs.Folding.{fold_by}
use Rattle.wire_reader.proofs.Reader.{bind_ok, bind_err}
use Rattle.wire_reader.proofs.Parts.{pair_is}
use Rattle.wire_reader.proofs.Folds.{folded_is, fold_err, fold_goes}
use Rattle.wire_reader.proofs.Fronts.{front_is}
use Rattle.wire_tokens.specs.declared.spaced.NameKind.{NameKind}
use Rattle.wire_tokens.specs.declared.spaced.NameKind.TheVariants as kinds
use Rattle.wire_tokens.specs.Atoms.{is_atom_byte, IsAtom}
use Rattle.wire_tokens.specs.Names.{IsFlag, IsName, SpacedText, NamesText, IsSpaced, is_space, names_of, name_at, spaced_at, passed, nothing, names_passed}
use Rattle.wire_tokens.proofs.NameParts.{spaced_part}

abbrev Text : Type 0
Text = List ℕ

pub passed_ok : (r : Text → Result (Text × Text) Stop) (xs rest : Text) → passed r xs ≡ Ok (tt, rest) → (a : Text) × (r xs ≡ Ok (a, rest))
passed_ok r xs rest h =
    let m = bind_ok (r xs) (λ x. Ok (tt, x.1)) (tt, rest) h in
    let same : (tt, m.0.1) ≡ (tt, rest) = pair_is {A = Unit {0}} (tt, m.0.1) (tt, rest) m.2 in
    (m.0.0, m.1 ∙ ap (λ (y : Unit {0} × Text). Ok (m.0.0, y.1)) same)

pub passed_err : (r : Text → Result (Text × Text) Stop) (xs : Text) (s : Stop) → passed r xs ≡ Err s → r xs ≡ Err s
passed_err r xs s h =
    elim (bind_err (r xs) (λ x. let o : Result (Unit {0} × Text) Stop = Ok (tt, x.1) in o) s h) [
      | inl one ↦ one
      | inr x ↦ absurd (let wrong = x.2 in cc)
    ]

abbrev From : NameKind → ℕ → Text → Result (Unit {0} × Text) Stop
From kind n xs = fold_by 32 (name_at kind) nothing n tt xs

pub pass_init : (kind : NameKind) (xs : Text) → From kind (suc (length xs) - 0) xs ≡ names_passed kind xs
pass_init kind xs = let n : suc (length xs) - 0 ≡ suc (length xs) = omega arith in ap (λ (m : ℕ). From kind m xs) n

pub pass_fails : (kind : NameKind) (n i : ℕ) (xs : Text) (total : Result (Unit {0} × Text) Stop) (s : Stop) → i < n → From kind (n - i) xs ≡ total → passed (name_at kind) xs ≡ Err s → total ≡ Err s
pass_fails kind n i xs total s lt so_far h = fold_err 32 (name_at kind) nothing n i tt xs total lt so_far s (passed_err (name_at kind) xs s h)

pub pass_goes : (kind : NameKind) (n i : ℕ) (xs rest bs : Text) (total : Result (Unit {0} × Text) Stop) → i < n → From kind (n - i) xs ≡ total → passed (name_at kind) xs ≡ Ok (tt, rest) → rest ≡ 32 ∷ bs → From kind (n - (i + 1)) bs ≡ total
pass_goes kind n i xs rest bs total lt so_far h e = let a = passed_ok (name_at kind) xs rest h in fold_goes 32 (name_at kind) nothing n i tt xs total lt so_far a.0 rest bs a.1 e

-- ---- the names of a text

abbrev no_space : ℕ → Bool
no_space b = not (is_space b)

spaceless : (b : ℕ) → is_atom_byte b ≡ true → no_space b ≡ true
spaceless b h =
    elim (cases_Bool (is_space b)) [
      | inl e ↦ absurd (true≢false (sym h ∙ ap is_atom_byte (eqb-true b 32 e)))
      | inr e ↦ ap not e
    ]

atom_spaceless : (t : Text) → list_all is_atom_byte t ≡ true → list_all no_space t ≡ true
atom_spaceless [] h = refl
atom_spaceless (b ∷ t) h = let p = and_parts _ _ h in and_from _ _ (spaceless b p.0) (atom_spaceless t p.1)

flag_spaceless : (t : Text) → IsFlag t → list_all no_space t ≡ true
flag_spaceless t (inl b) = ap (list_all no_space) b.parts ∙ atom_spaceless b.atom b.is.each
flag_spaceless t (inr i) = atom_spaceless t i.each

name_spaceless : (kind : NameKind) (t : Text) → IsName kind t → list_all no_space t ≡ true
name_spaceless kinds.Atom t h = atom_spaceless t h.each
name_spaceless kinds.Flag t h = flag_spaceless t h
name_spaceless kinds.PermanentFlag t (inl e) = ap (list_all no_space) e
name_spaceless kinds.PermanentFlag t (inr h) = flag_spaceless t h

none_space : (kind : NameKind) (t : Text) → IsName kind t → All (λ b. is_space b ≡ false) t
none_space kind t h = λ k d lt. not-true _ (AllPass-from_list_all no_space t (name_spaceless kind t h) k d lt)

-- cut at its spaces, a text of names gives them back
pub names_are : (kind : NameKind) (names : List Text) (t : Text) → SpacedText kind names t → names_of t ≡ names
names_are kind [] t h = absurd h
names_are kind (a ∷ []) t h = slice_split_none is_space t (none_space kind t h.1) ∙ ap (λ (x : Text). x ∷ []) h.0
names_are kind (a ∷ b ∷ names) t h =
    let j = h.second in
    let split : t ≡ h.front ++ 32 ∷ j.back = h.parts ∙ ap (λ (x : Text). h.front ++ x) (j.parts ∙ ap (λ (x : Text). x ++ j.back) j.first) in
    ap names_of split ∙ slice_split_at is_space h.front 32 j.back (none_space kind h.front h.first.1) refl
    ∙ ap (λ (x : Text). x ∷ names_of j.back) h.first.0 ∙ ap (λ (xs : List Text). a ∷ xs) (names_are kind (b ∷ names) j.back j.second)

pub one_atom : (t : Text) → IsAtom t → names_of t ≡ t ∷ []
one_atom t h = names_are kinds.Atom (t ∷ []) t (refl, h)

pub one_spaced : (t : Text) → IsAtom t → NamesText (names_of t) t
one_spaced t h = subst (λ (names : List Text). NamesText names t) (sym (one_atom t h)) (refl, h)

-- ---- what was skipped

pub record Lent (kind : NameKind) (xs rest : Text) : Type 0 where
  pub reads : spaced_at kind xs ≡ Ok (names_of (take (length xs - length rest) xs), rest)
  pub spaced : IsSpaced kind (take (length xs - length rest) xs)

abbrev end_of : Result (List Text × Text) Stop → Result (Unit {0} × Text) Stop
end_of o = o >>= λ x. Ok (fold nothing tt x.0, x.1)

pub lent : (kind : NameKind) (xs rest : Text) → names_passed kind xs ≡ Ok (tt, rest) → Lent kind xs rest
lent kind xs rest h =
    let m = bind_ok (spaced_at kind xs) (λ x. let o : Result (Unit {0} × Text) Stop = Ok (fold nothing tt x.0, x.1) in o) (tt, rest) (sym (folded_is 32 (name_at kind) nothing tt xs) ∙ h) in
    let same : m.0.1 ≡ rest = ap (λ (y : Unit {0} × Text). y.1) (pair_is {A = Unit {0}} (fold nothing tt m.0.0, m.0.1) (tt, rest) m.2) in
    let t = (spaced_part {side = Commands} kind).reader.sound xs m.0.0 m.0.1 m.1 in
    let front : take (length xs - length rest) xs ≡ t.text = ap (λ (y : Text). take (length xs - length y) xs) (sym same) ∙ front_is xs t.text m.0.1 t.parts in
    let names : names_of (take (length xs - length rest) xs) ≡ m.0.0 = ap names_of front ∙ names_are kind m.0.0 t.text t.spelled in
    record {
      reads = m.1 ∙ ap (λ (y : Text). let o : Result (List Text × Text) Stop = Ok (m.0.0, y) in o) same ∙ ap (λ (ns : List Text). Ok (ns, rest)) (sym names);
      spaced = subst (λ (ns : List Text). SpacedText kind ns (take (length xs - length rest) xs)) (sym names) (subst (SpacedText kind m.0.0) (sym front) t.spelled);
    }

pub not_lent : (kind : NameKind) (xs : Text) (s : Stop) → names_passed kind xs ≡ Err s → spaced_at kind xs ≡ Err s
not_lent kind xs s h =
    elim (bind_err (spaced_at kind xs) (λ x. let o : Result (Unit {0} × Text) Stop = Ok (fold nothing tt x.0, x.1) in o) s (sym (folded_is 32 (name_at kind) nothing tt xs) ∙ h)) [
      | inl one ↦ one
      | inr x ↦ absurd (let wrong = x.2 in cc)
    ]
