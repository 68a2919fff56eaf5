-- Streams that are written to several times.
use Rattle.std.proofs.Common.{◌≡◌, ℕ, zero, suc, ◌≤◌, List, [], ◌∷◌, length, take, Option, None, Some, Result, Ok, Err, IfOk, refl, ap, map, flat_map, sym, ◌∙◌, ◌++◌, append_assoc, append-nil, subst, arith}
use Rattle.std.proofs.lemmas.Grind.{flat_map-append}
use Rattle.std.proofs.lemmas.List.{length-take, take_all}
use Rattle.std.specs.Io.KnownBytes.{Appends}
use Rattle.channels.specs.declared.notice.Notice.{Notice}
use Rattle.channels.specs.declared.verdict.Verdict.{Verdict}
use Rattle.channels.specs.declared.verdict.Verdict.TheVariants.{Clean, Faulty, Over}
use Rattle.channels.specs.Lines.{notice_line}
use Rattle.channels.specs.declared.explanation.Explanation.{Explanation}
use Rattle.channels.specs.Explanations.{explanation_line}
use Rattle.channels.specs.Streams.{Extends, HasNotices, IsQuiet, Explained, Noticed, remark_line}
use Rattle.channels.specs.Verdicts.{both}

front : {X : Type 0} (m n : ℕ) (xs : List X) → m ≤ n → take m (take n xs) ≡ take m xs
front zero n xs h = refl
front (suc m) zero xs h = absurd (omega (arith, h))
front (suc m) (suc n) [] h = refl
front (suc m) (suc n) (x ∷ xs) h = ap (λ ys. x ∷ ys) (front m n xs (omega (arith, h)))

no_longer : (xs ys : List ℕ) → take (length xs) ys ≡ xs → length xs ≤ length ys
no_longer xs ys h =
    let t = length-take (length xs) ys in
    let e : length (take (length xs) ys) ≡ length xs = ap length h in
    omega (arith, t, e)

pub Extends-same : (known : Option (List ℕ)) → Extends known known
Extends-same None = tt
Extends-same (Some xs) =
    let h : length xs ≤ length xs = omega arith in
    take_all (length xs) xs h

pub Extends-more : (first then last : Option (List ℕ)) → Extends first then → Extends then last → Extends first last
Extends-more None then last h k = tt
Extends-more (Some xs) None last h k = absurd h
Extends-more (Some xs) (Some ys) None h k = absurd k
Extends-more (Some xs) (Some ys) (Some zs) h k =
    sym (front (length xs) (length ys) zs (no_longer xs ys h)) ∙ ap (take (length xs)) k ∙ h

Appends-none : (known : Option (List ℕ)) → Appends known known []
Appends-none None = tt
Appends-none (Some xs) = sym (append-nil xs)

Appends-more : (first then last : Option (List ℕ)) (bs cs : List ℕ) → Appends first then bs → Appends then last cs → Appends first last (bs ++ cs)
Appends-more None then last bs cs h k = tt
Appends-more (Some xs) None last bs cs h k = absurd h
Appends-more (Some xs) (Some ys) None bs cs h k = absurd k
Appends-more (Some xs) (Some ys) (Some zs) bs cs h k = k ∙ ap (λ s. s ++ cs) h ∙ append_assoc xs bs cs

-- nothing was written
pub HasNotices-same : (known : Option (List ℕ)) → HasNotices known known
HasNotices-same known = record { remarks = []; lines = Appends-none known }

-- the line of one notice was written
pub HasNotices-one : (old new : Option (List ℕ)) (notice : Notice) → Appends old new (notice_line notice) → HasNotices old new
HasNotices-one old new notice h =
    record { remarks = Noticed notice ∷ []; lines = subst (λ bs. Appends old new bs) (sym (append-nil (notice_line notice))) h }

explained : (explanations : List Explanation) → flat_map explanation_line explanations ≡ flat_map remark_line (map Explained explanations)
explained [] = refl
explained (e ∷ es) = ap (λ (rest : List ℕ). explanation_line e ++ rest) (explained es)

-- the lines of explanations were written
pub HasNotices-explained : (old new : Option (List ℕ)) (explanations : List Explanation) → Appends old new (flat_map explanation_line explanations) → HasNotices old new
HasNotices-explained old new explanations h =
    record { remarks = map Explained explanations; lines = subst (λ bs. Appends old new bs) (explained explanations) h }

-- nothing but notices was written, and then again
pub HasNotices-more : (first then last : Option (List ℕ)) → HasNotices first then → HasNotices then last → HasNotices first last
HasNotices-more first then last h k =
    record {
      remarks = h.remarks ++ k.remarks;
      lines = subst (λ bs. Appends first last bs) (sym (flat_map-append remark_line h.remarks k.remarks))
          (Appends-more first then last _ _ h.lines k.lines);
    }

abbrev WasReported : Verdict → Type 0
WasReported Clean = ⊥
WasReported Faulty = Unit {0}
WasReported Over = Unit {0}

pub reported_is_reported : (verdict : Verdict) → WasReported verdict → verdict ≡ Clean → ⊥
reported_is_reported verdict h e = subst WasReported e h

pub IsQuiet-more : (first then last : Option (List ℕ)) (verdict later : Verdict) → IsQuiet first then verdict → IsQuiet then last later → IsQuiet first last (both verdict later)
IsQuiet-more first then last verdict Clean h k = λ e. HasNotices-more first then last (h e) (k refl)
IsQuiet-more first then last verdict Faulty h k = λ e. absurd (reported_is_reported Faulty tt e)
IsQuiet-more first then last verdict Over h k = λ e. absurd (reported_is_reported Over tt e)

-- a verdict is that of both
pub IsQuiet-both : (first then last : Option (List ℕ)) (verdict later all : Verdict) → all ≡ both verdict later → IsQuiet first then verdict → IsQuiet then last later → IsQuiet first last all
IsQuiet-both first then last verdict later all e h k =
    subst (λ v. IsQuiet first last v) (sym e) (IsQuiet-more first then last verdict later h k)

-- notices before what was reported
IsQuiet-before : (first then last : Option (List ℕ)) (verdict : Verdict) → HasNotices first then → IsQuiet then last verdict → IsQuiet first last verdict
IsQuiet-before first then last verdict h k = λ e. HasNotices-more first then last h (k e)

-- the same of a verdict that a call gave
pub IfOk-before : {E : Type 0} (first then last : Option (List ℕ)) (result : Result Verdict E) → HasNotices first then → IfOk result (λ v. IsQuiet then last v) → IfOk result (λ v. IsQuiet first last v)
IfOk-before first then last (Ok v) h k = IsQuiet-before first then last v h k
IfOk-before first then last (Err e) h k = tt

-- notices after what was reported
pub IsQuiet-following : (first then last : Option (List ℕ)) (verdict : Verdict) → IsQuiet first then verdict → HasNotices then last → IsQuiet first last verdict
IsQuiet-following first then last verdict h k = λ e. HasNotices-more first then last (h e) k

-- the same stream under another name
pub HasNotices-from : (other first last : Option (List ℕ)) → other ≡ first → HasNotices other last → HasNotices first last
HasNotices-from other first last e h = subst (λ known. HasNotices known last) e h

pub IsQuiet-from : (other first last : Option (List ℕ)) (verdict : Verdict) → other ≡ first → IsQuiet other last verdict → IsQuiet first last verdict
IsQuiet-from other first last verdict e h = subst (λ known. IsQuiet known last verdict) e h

-- what is printed several times
pub ruleset stream_steps = (Extends-same, Extends-more)

-- the lines of notices, several times
pub ruleset notice_steps = (HasNotices-same, HasNotices-one, HasNotices-explained, HasNotices-more)

-- what is reported several times
pub ruleset quiet_steps = (HasNotices-same, IsQuiet-more)
