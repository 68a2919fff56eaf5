-- What is written where, of streams whose bytes are known.
use Rattle.std.specs.Prelude.{◌≡◌, ◌⊎◌, ℕ, ⊤, Bool, true, List, length, take, Option, None, Some, Result, MatchResult}
use Rattle.std.specs.Io.KnownBytes.{Appends}
use Rattle.std.specs.List.{flat_map}
use Rattle.channels.specs.declared.notice.Notice.{Notice}
use Rattle.channels.specs.declared.verdict.Verdict.{Verdict}
use Rattle.channels.specs.declared.verdict.Verdict.TheVariants.{Clean}
use Rattle.channels.specs.declared.explanation.Explanation.{Explanation}
use Rattle.channels.specs.Lines.{notice_line}
use Rattle.channels.specs.Explanations.{explanation_line}

-- all that was to be written stands after what was there: so it is only where no write failed
abbrev pub Extends : Option (List ℕ) → Option (List ℕ) → Type 0
Extends None new = ⊤
Extends (Some xs) None = ⊥
Extends (Some xs) (Some ys) = take (length xs) ys ≡ xs

-- a fault was reported
abbrev pub IsReported : Verdict → Type 0
IsReported verdict = verdict ≡ Clean → ⊥

-- what is reported beside faults: a notice, or what explains an answer
pub data Remark : Type 0 where
  Noticed : Notice → Remark
  Explained : Explanation → Remark

abbrev pub remark_line : Remark → List ℕ
remark_line (Noticed notice) = notice_line notice
remark_line (Explained explanation) = explanation_line explanation

-- nothing but the lines of these remarks was written
pub record HasNotices (old new : Option (List ℕ)) : Type 0 where
  pub remarks : List Remark
  pub lines : Appends old new (flat_map remark_line remarks)

-- nothing but notices was written to standard error, unless a fault was reported
abbrev pub IsQuiet : (old new : Option (List ℕ)) → Verdict → Type 0
IsQuiet old new verdict = verdict ≡ Clean → HasNotices old new

-- an answer was printed and explained, unless there was no memory for it: then nothing was printed, and a fault is reported
abbrev pub IsAnswered : (text : List ℕ) (out printed : Option (List ℕ)) (explanation : List ℕ) (err reported : Option (List ℕ)) → Verdict → Type 0
IsAnswered text out printed explanation err reported verdict =
    (Appends out printed text × Appends err reported explanation) ⊎ ((printed ≡ out) × IsReported verdict)

-- whether a write has failed so far, before a write and after it
abbrev pub Notes : {T E : Type 0} → (before after : Bool) → Result T E → Type 0
Notes before after result = MatchResult result (λ _. after ≡ before) (λ _. after ≡ true)
