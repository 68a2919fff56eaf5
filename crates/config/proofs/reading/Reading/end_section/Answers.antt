use Rattle.std.proofs.Common.{◌≡◌, ◌∙◌, ℕ, ap, refl, subst, sym}
use Rattle.std.specs.Prelude.{Option, IfSome, None, Some}
use Rattle.config_words.specs.declared.fault.ConfigFault.{ConfigFault}
use Rattle.config_words.specs.declared.fault.FaultKind.TheVariants.{KeywordMissing}
use Rattle.config.specs.declared.reading.Reading.{Reading}
use Rattle.config.specs.Outlines.{Reports, earlier}
use Rattle.config.specs.Readings.{IsLine, IsRead}
use Rattle.config.specs.Views.{view}
use Rattle.config.proofs.OutlineLemmas.{reports_other}
use Rattle.config.proofs.PartedLemmas.{ended_meant, kept_so, outside_so, some_first, whole_so}
use Rattle.config.proofs.reading.Reading.end_section.Goals as goal
use Rattle.config.proofs.reading.Reading.end_section.Goals.{then-lacks, else-lacks}

pub returns-in_default-clause-meant : goal.returns-in_default-clause-meant
returns-in_default-clause-meant c = λ p knows none.
    let meant = knows none in
    ended_meant p c.args.self.now.draft (record { draft = c.end_section.new.self; begun = c.args.self.now.begun; first = c.args.self.now.first })
    meant.draft (c.in_ok-is_kept.ensures.view (c.in_ok-is_kept.ensures.kept (outside_so p c.args.self.now meant c.in_default.is)))

pub returns-after-lacks-clause-meant : goal.returns-after-lacks-clause-meant
returns-after-lacks-clause-meant c = elim c.if-lacks.branch [
  | then-lacks w ↦ λ p knows none. absurd (some_first w.note.ensures.first (sym (ap (λ (r : Reading). r.first) w.self-is) ∙ none))
  | else-lacks w ↦ λ p knows none.
      let before : c.args.self.now.first ≡ None = sym (ap (λ (r : Reading). r.first) w.self-is) ∙ none in
      let kept = kept_so c.is_whole-is_whole.result c.in_ok-is_kept.is_kept c.lacks.result c.args.self.now.first c.lacks.ensures w.if-lacks.false before in
      ended_meant p c.args.self.now.draft _ (knows before).draft (ap (λ (r : Reading). view r.draft) w.self-is ∙ c.in_ok-is_kept.ensures.view kept)
]

pub returns-in_default-clause-read : goal.returns-in_default-clause-read
returns-in_default-clause-read c = λ last is.
    record { begun = is.begun; first = is.first; members = c.end_section.ensures.lines last is.members }

pub returns-after-lacks-clause-read : goal.returns-after-lacks-clause-read
returns-after-lacks-clause-read c = λ last is.
    let line : IsLine last c.in-Some.line = subst (λ (o : Option ℕ). IfSome o (IsLine last)) c.in-Some.is is.begun in
    let mid : Reading = record { draft = c.end_section.new.self; begun = c.args.self.now.begun; first = c.args.self.now.first } in
    let before : IsRead last mid = record { begun = is.begun; first = is.first; members = c.end_section.ensures.lines last is.members } in
    let here : IsRead last c.if-lacks.self = elim c.if-lacks.branch [
      | then-lacks w ↦ subst (λ (r : Reading). IsRead last r) (sym w.self-is) (w.note.ensures.read last before line)
      | else-lacks w ↦ subst (λ (r : Reading). IsRead last r) (sym w.self-is) before
    ] in
    record { begun = tt; first = here.first; members = here.members }

pub returns-after-lacks-clause-none : goal.returns-after-lacks-clause-none
returns-after-lacks-clause-none c = elim c.if-lacks.branch [
  | then-lacks w ↦ λ none. absurd (some_first w.note.ensures.first (sym (ap (λ (r : Reading). r.first) w.self-is) ∙ none))
  | else-lacks w ↦ λ none. sym (ap (λ (r : Reading). r.first) w.self-is) ∙ none
]

pub returns-after-lacks-clause-reported : goal.returns-after-lacks-clause-reported
returns-after-lacks-clause-reported c = λ again reported. elim c.if-lacks.branch [
  | then-lacks w ↦
      subst (λ (f : Option ConfigFault). Reports again f) (sym (ap (λ (r : Reading). r.first) w.self-is ∙ w.note.ensures.first))
      (reports_other again c.args.self.now.first (record { line = c.in-Some.line; kind = KeywordMissing }) reported refl (λ is. cc))
  | else-lacks w ↦ subst (λ (f : Option ConfigFault). Reports again f) (sym (ap (λ (r : Reading). r.first) w.self-is)) reported
]

pub returns-in_default-clause-missing : goal.returns-in_default-clause-missing
returns-in_default-clause-missing c = λ line begun lacking. absurd (some_first begun c.in_default.is)

pub returns-after-lacks-clause-missing : goal.returns-after-lacks-clause-missing
returns-after-lacks-clause-missing c = λ line begun lacking. elim c.if-lacks.branch [
  | then-lacks w ↦
      let same : c.in-Some.line ≡ line = cc in
      ap (λ (r : Reading). r.first) w.self-is ∙ (w.note.ensures.first
      ∙ ap (λ (n : ℕ). Some (earlier c.args.self.now.first (record { line = n; kind = KeywordMissing }))) same)
  | else-lacks w ↦
      absurd (lacking (c.is_whole-is_whole.ensures.0 (whole_so c.is_whole-is_whole.result c.in_ok-is_kept.is_kept c.lacks.result c.args.self.now.first c.lacks.ensures w.if-lacks.false)))
]
