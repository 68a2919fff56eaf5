-- A reading and the outline of the lines that it has read.
use Rattle.std.proofs.Common.{◌≡◌, ℕ, ◌+◌, Bool, true, false, List, [], ◌∷◌, take, drop, refl, ap, subst, sym, ◌∙◌}
use Rattle.std.specs.Prelude.{Option, Some, None, Result, Ok, Err, OnOk, MatchResult, fold, if◌then◌else◌}
use Rattle.std.specs.declared.alloc.AllocError.{AllocError}
use Rattle.config.specs.declared.config.Config.{Config}
use Rattle.config_words.specs.declared.fault.ConfigFault.{ConfigFault}
use Rattle.config_words.specs.declared.fault.FaultKind.{FaultKind}
use Rattle.config_words.specs.declared.fault.FaultKind.TheVariants.{UnknownKeyword, WrongArguments, BadText, OutsideSection, KeywordTwice, UnknownName, DefinedTwice, KeywordMissing, CellTwice, NoMemory, KeywordGiven}
use Rattle.config.specs.declared.reading.Reading.{Reading}
use Rattle.config.specs.Drafts.{IsTaken, standing_of}
use Rattle.config.specs.Outlines.{IsAfterWords, IsOutlined, IsReportedOf, Reports, earlier, is_repeat}
use Rattle.config_words.specs.Places.{closed}
use Rattle.config.specs.Standing.{Outline, Standing, after_line, after_words, line_again, faults_again, no_lines, outlined, standing_at, with_fault, words_again}
use Rattle.texts.specs.Lines.{lines_of}
use Rattle.config_words.specs.Words.{is_blank, words_of}
use Rattle.config.proofs.OutlineLemmas.{all_taken, one_left, outlined_more, reports_again, reports_other}

-- ---- what a line's words leave

-- the standing is that after the line
pub stands : (kind : FaultKind) (again : Option FaultKind) (following found : Standing) → IsTaken again following found (Err kind) → (kind ≡ NoMemory → ⊥) → found ≡ following
stands UnknownKeyword again following found taken memory = taken.1
stands WrongArguments again following found taken memory = taken.1
stands BadText again following found taken memory = taken.1
stands OutsideSection again following found taken memory = taken.1
stands KeywordTwice again following found taken memory = taken.1
stands UnknownName again following found taken memory = taken.1
stands DefinedTwice again following found taken memory = taken.1
stands KeywordMissing again following found taken memory = taken.1
stands CellTwice again following found taken memory = taken.1
stands NoMemory again following found taken memory = absurd (memory refl)
stands KeywordGiven again following found taken memory = taken.1

-- the line says nothing again, or its fault is that it does
says_again : (kind : FaultKind) (again : Option FaultKind) (following found : Standing) → IsTaken again following found (Err kind) → (kind ≡ NoMemory → ⊥)
    → again ≡ (if is_repeat kind then Some kind else None)
says_again UnknownKeyword again following found taken memory = taken.0
says_again WrongArguments again following found taken memory = taken.0
says_again BadText again following found taken memory = taken.0
says_again OutsideSection again following found taken memory = taken.0
says_again KeywordTwice again following found taken memory = taken.0
says_again UnknownName again following found taken memory = taken.0
says_again DefinedTwice again following found taken memory = taken.0
says_again KeywordMissing again following found taken memory = taken.0
says_again CellTwice again following found taken memory = taken.0
says_again NoMemory again following found taken memory = absurd (memory refl)
says_again KeywordGiven again following found taken memory = taken.0

-- and the first fault is reported of the lines that say something again, this one among them
pub states : (kind : FaultKind) (again : Option FaultKind) (following found : Standing) (faults : List ConfigFault) (first : Option ConfigFault) (line : ℕ)
    → IsTaken again following found (Err kind) → (kind ≡ NoMemory → ⊥) → Reports faults first
    → Reports (with_fault faults line again) (Some (earlier first (record { line = line; kind = kind })))
states kind again following found faults first line taken memory reported =
    subst (λ (a : Option FaultKind). Reports (with_fault faults line a) (Some (earlier first fault))) (sym (says_again kind again following found taken memory))
    (by (is_repeat kind) refl)
  where
    fault : ConfigFault
    fault = record { line = line; kind = kind }

    by : (b : Bool) → is_repeat kind ≡ b → Reports (with_fault faults line (if b then Some kind else None)) (Some (earlier first fault))
    by true is = reports_again faults first fault reported memory
    by false is = reports_other faults first fault reported is memory

-- ---- the three kinds of lines

no_again : (o : Outline) (line : List ℕ) (first : Option ConfigFault) → line_again line o.standing ≡ None → Reports o.again first → Reports (outlined o line).again first
no_again o line first none reported = subst (λ (a : Option FaultKind). Reports (with_fault o.again (o.count + 1) a) first) (sym none) reported

pub blank_line : (o : Outline) (line : List ℕ) (old new : Reading) → is_blank line ≡ true → IsOutlined o old
    → standing_of new.draft ≡ standing_at (closed (standing_of old.draft).at) (standing_of old.draft) → Reports o.again new.first → IsOutlined (outlined o line) new
blank_line o line old new blank is stands reported = record {
  standing = stands ∙ ap (λ (s : Standing). standing_at (closed s.at) s) is.standing
      ∙ sym (ap (λ (b : Bool). if b then standing_at (closed o.standing.at) o.standing else after_words (words_of line) o.standing) blank);
  reported = no_again o line new.first (ap (λ (b : Bool). if b then None else words_again (words_of line) o.standing) blank) reported;
}

-- what a line with words comes to
words_after : (o : Outline) (line : List ℕ) (words : Option (List ℕ × List ℕ)) → is_blank line ≡ false → words_of line ≡ words
    → after_line line o.standing ≡ after_words words o.standing
words_after o line words some are =
    ap (λ (b : Bool). if b then standing_at (closed o.standing.at) o.standing else after_words (words_of line) o.standing) some
    ∙ ap (λ (w : Option (List ℕ × List ℕ)). after_words w o.standing) are

again_after : (o : Outline) (line : List ℕ) (words : Option (List ℕ × List ℕ)) → is_blank line ≡ false → words_of line ≡ words
    → line_again line o.standing ≡ words_again words o.standing
again_after o line words some are =
    ap (λ (b : Bool). if b then None else words_again (words_of line) o.standing) some
    ∙ ap (λ (w : Option (List ℕ × List ℕ)). words_again w o.standing) are

pub comment_line : (o : Outline) (line : List ℕ) (reading : Reading) → is_blank line ≡ false → words_of line ≡ None → IsOutlined o reading
    → IsOutlined (outlined o line) reading
comment_line o line reading some none is = record {
  standing = is.standing ∙ sym (words_after o line None some none);
  reported = no_again o line reading.first (again_after o line None some none) is.reported;
}

pub words_line : (o : Outline) (line : List ℕ) (words : List ℕ × List ℕ) (number : ℕ) (reading : Reading) → is_blank line ≡ false → words_of line ≡ Some words
    → number ≡ o.count + 1 → IsAfterWords o words number reading → IsOutlined (outlined o line) reading
words_line o line words number reading some are counted is = record {
  standing = is.standing ∙ sym (words_after o line (Some words) some are);
  reported =
      subst (λ (a : Option FaultKind). Reports (with_fault o.again (o.count + 1) a) reading.first) (sym (again_after o line (Some words) some are))
      (subst (λ (n : ℕ). Reports (with_fault o.again n (words_again (Some words) o.standing)) reading.first) counted is.reported);
}

-- a fault of the line is noted
pub noted : (o : Outline) (words : List ℕ × List ℕ) (number : ℕ) (kind : FaultKind) (old new : Reading) (found : Standing) → IsOutlined o old
    → IsTaken (words_again (Some words) (standing_of old.draft)) (after_words (Some words) (standing_of old.draft)) found (Err kind) → (kind ≡ NoMemory → ⊥)
    → standing_of new.draft ≡ found → new.first ≡ Some (earlier old.first (record { line = number; kind = kind })) → IsAfterWords o words number new
noted o words number kind old new found is taken memory same first = record {
  standing = same ∙ (stands kind (words_again (Some words) (standing_of old.draft)) (after_words (Some words) (standing_of old.draft)) found taken memory ∙ ap (λ (s : Standing). after_words (Some words) s) is.standing);
  reported =
      subst (λ (f : Option ConfigFault). Reports (with_fault o.again number (words_again (Some words) o.standing)) f) (sym first)
      (subst (λ (s : Standing). Reports (with_fault o.again number (words_again (Some words) s)) (Some (earlier old.first (record { line = number; kind = kind }))))
      is.standing (states kind (words_again (Some words) (standing_of old.draft)) (after_words (Some words) (standing_of old.draft)) found o.again old.first number taken memory is.reported));
}

pub on_ok : (r : Result (Unit {0}) AllocError) (P : Type 0) → P → OnOk r P
on_ok (Ok done) P p = p
on_ok (Err fault) P p = tt

pub on_ok_so : (r : Result (Unit {0}) AllocError) (P Q : Type 0) → (P → Q) → OnOk r P → OnOk r Q
on_ok_so (Ok done) P Q so p = so p
on_ok_so (Err fault) P Q so p = tt

-- ---- the lines of a text, as far as they are read

pub record IsSoFar (text : List ℕ) (taken : ℕ) (rest : List ℕ) (reading : Reading) : Type 0 where
  pub known : IsOutlined (fold outlined no_lines (take taken (lines_of text))) reading
  pub counted : (fold outlined no_lines (take taken (lines_of text))).count ≡ taken
  pub left : drop taken (lines_of text) ≡ lines_of rest

pub first_so_far : (text rest : List ℕ) (taken : ℕ) (reading : Reading) → taken ≡ 0 → rest ≡ text → IsOutlined no_lines reading → IsSoFar text taken rest reading
first_so_far text rest taken reading none whole is =
    subst (λ (r : List ℕ). IsSoFar text taken r reading) (sym whole)
    (subst (λ (n : ℕ). IsSoFar text n text reading) (sym none) (record { known = is; counted = refl; left = refl }))

pub more_so_far : (text : List ℕ) (taken grown number : ℕ) (line rest following : List ℕ) (old new : Reading) → IsSoFar text taken rest old
    → grown ≡ taken + 1 → number ≡ taken + 1 → lines_of rest ≡ line ∷ lines_of following
    → ((o : Outline) → IsOutlined o old → number ≡ o.count + 1 → IsOutlined (outlined o line) new) → IsSoFar text grown following new
more_so_far text taken grown number line rest following old new so is_grown is_next next read =
    let all = lines_of text in
    let here : drop taken all ≡ line ∷ lines_of following = so.left ∙ next in
    let more = outlined_more all taken line (lines_of following) here in
    let before = fold outlined no_lines (take taken all) in
    subst (λ (n : ℕ). IsSoFar text n following new) (sym is_grown)
    (record {
      known = subst (λ (o : Outline). IsOutlined o new) (sym more) (read before so.known (is_next ∙ ap (λ (n : ℕ). n + 1) (sym so.counted)));
      counted = ap (λ (o : Outline). o.count) more ∙ ap (λ (n : ℕ). n + 1) so.counted;
      left = one_left all taken line (lines_of following) here;
    })

-- all lines are read
pub all_so_far : (text : List ℕ) (taken : ℕ) (rest : List ℕ) (reading : Reading) → IsSoFar text taken rest reading → lines_of rest ≡ []
    → Reports (faults_again text) reading.first
all_so_far text taken rest reading so none =
    let all = lines_of text in
    subst (λ (lines : List (List ℕ)). Reports (fold outlined no_lines lines).again reading.first) (all_taken all taken (so.left ∙ none)) so.known.reported

pub unless_memory : (again : List ConfigFault) (reported : Result Config ConfigFault) → MatchResult reported (λ config. again ≡ []) (IsReportedOf again)
    → MatchResult reported (λ config. again ≡ []) (λ fault. (fault.kind ≡ NoMemory → ⊥) → IsReportedOf again fault)
unless_memory again (Ok config) known = known
unless_memory again (Err fault) known = λ memory. known

pub on_reported : {P Q : Type 0} (reported : Result Config ConfigFault) → (P → Q) → OnOk reported P → OnOk reported Q
on_reported (Ok config) so p = so p
on_reported (Err fault) so p = tt
