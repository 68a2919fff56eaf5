use Rattle.std.proofs.Common.{refl, inl, inr, ap, ◌∙◌, ◌++◌, ◌∷◌, ℕ, List, subst}
use Rattle.mailcore.specs.declared.keywords.Keyword.{Keyword}
use Rattle.sync_state.specs.Lines.{OneLine}
use Rattle.sync_state.proofs.KeywordReading.{added_last, no_such_line, not_above, not_added}
use Rattle.sync_state.proofs.keyword_lines.take_keyword.Goals as goal

pub returns-in_default-keyword_of : goal.returns-in_default-keyword_of
returns-in_default-keyword_of c =
    let parts = c.in-Some.ensures.sides in
    (no_such_line c.args.keywords.now c.args.lines.now.rest.now c.in-Some.line.now c.in-Some.rest.now parts.0 parts.1 (λ k m. c.in_default-keyword_of.ensures.none k), refl, refl)

pub returns-then-not-is_above : goal.returns-then-not-is_above
returns-then-not-is_above c =
    let parts = c.in-Some.ensures.sides in
    let k : Keyword = record { letter = c.in-Some-keyword_of.letter; name = c.in-Some-keyword_of.name.now } in (
      no_such_line c.args.keywords.now c.args.lines.now.rest.now c.in-Some.line.now c.in-Some.rest.now parts.0 parts.1
          (not_above c.args.keywords.now k c.in-Some.line.now c.in-Some-keyword_of.ensures.some c.if-not-is_above.ensures),
      refl,
      refl,
    )

pub returns-in_default-fault : goal.returns-in_default-fault
returns-in_default-fault c =
    let parts = c.in-Some.ensures.sides in
    let k : Keyword = record { letter = c.in-Some-keyword_of.letter; name = c.in-Some-keyword_of.name.now } in
    let reported = c.in-Err.ensures.refused in
    elim reported.1 [
      | inl memory ↦ absurd (c.in_default-fault.not-NoMemory memory.0)
      | inr refused ↦ (
        no_such_line c.args.keywords.now c.args.lines.now.rest.now c.in-Some.line.now c.in-Some.rest.now parts.0 parts.1
            (not_added c.args.keywords.now k c.in-Some.line.now c.in-Err.fault c.in-Some-keyword_of.ensures.some refused),
        refl,
        reported.0,
      )
    ]

pub returns : goal.returns
returns c =
    let parts = c.in-Some.ensures.sides in
    let is = c.in-Some-keyword_of.ensures.some in
    let k : Keyword = record { letter = c.in-Some-keyword_of.letter; name = c.in-Some-keyword_of.name.now } in (
      record {
        keyword = k;
        added = c.in_default-add.ensures.added.1 ∙ added_last k c.args.keywords.now c.if-not-is_above.ensures;
        one_line = subst (λ (x : List ℕ). OneLine x) is parts.1;
        parts = parts.0 ∙ ap (λ (x : List ℕ). x ++ 10 ∷ c.in-Some.rest.now) is;
      },
      refl,
    )
