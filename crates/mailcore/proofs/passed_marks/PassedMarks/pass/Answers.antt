use Rattle.std.proofs.Common.{rules, sym, ap, ◌∙◌}
use Rattle.std.specs.HashSet.{contains}
use Rattle.std.specs.Str.{bytes_eq}
use Rattle.mailcore.specs.Operations.{is_mark}
use Rattle.mailcore.specs.declared.passed_marks.PassedMarks.{PassedMarks}
use Rattle.mailcore.proofs.PassedLemmas.{not_among, passed_more}
use Rattle.mailcore.proofs.passed_marks.PassedMarks.pass.Goals.{in-Some+in_ok-insert, in_default}
use Rattle.mailcore.proofs.passed_marks.PassedMarks.pass.Goals as goal

pub returns-clause-passed : goal.returns-clause-passed
returns-clause-passed c = λ next messages small passed only. elim c.match-mark.branch [
  | in-Some+in_ok-insert w ↦
      passed_more next messages c.args.self.now _ c.args.uid c.args.mark small passed only (search rules) (search rules)
      (λ other none.
      let both = not_among c.args.self.now.marks w.insert.new.self w.in-Some.mark other (w.in_ok-insert.ensures.updates.0 other) (sym (ap (λ (p : PassedMarks). contains bytes_eq p.marks other) w.self-is) ∙ none) in
      (both.0, ap (λ o. is_mark o other) w.in-Some.is ∙ both.1))
  | in_default w ↦
      passed_more next messages c.args.self.now _ c.args.uid c.args.mark small passed only (search rules) (search rules)
      (λ other none. (sym (ap (λ (p : PassedMarks). contains bytes_eq p.marks other) w.self-is) ∙ none, ap (λ o. is_mark o other) w.in_default.is))
]
