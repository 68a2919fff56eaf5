use Rattle.std.specs.Prelude.{Option, None}
use Rattle.std.proofs.Common.{◌≡◌, ◌∙◌, ap, subst}
use Rattle.config_words.specs.declared.keyword.LinePlace.{LinePlace}
use Rattle.config.specs.Drafts.{IsTaken, place_of, standing_of}
use Rattle.config_words.specs.Keywords.{meant_at, opened_by, section_of}
use Rattle.config_words.specs.Places.{is_section}
use Rattle.mailcore.specs.declared.keywords.Keyword as mail
use Rattle.config.specs.Standing.{begins_again, begun, keyword_from}
use Rattle.config.proofs.KeywordLemmas.{misplaced_stays, section_gives}
use Rattle.config.proofs.NameLemmas.{misplaced_so, opens_same, placed}
use Rattle.config.specs.Sections.{line_said}
use Rattle.config_words.specs.Meanings.{Said, said}
use Rattle.config_words.specs.Places.{opened}
use Rattle.config_words.specs.Words.{arguments_of}
use Rattle.config.specs.Views.{view}
use Rattle.config.proofs.UnmixedLemmas.{read_unmixed}
use Rattle.config.proofs.ViewLemmas.{begins_so, line_at, read_accepted, read_titled, read_view}
use Rattle.config.proofs.draft.Draft.read.Goals as goal

pub read_arguments-requires : goal.read_arguments-requires
read_arguments-requires c =
    misplaced_so (is_section (place_of c.args.self.now.section)) c.at-keyword.result (section_of c.at-keyword.result) (standing_of c.args.self.now) (standing_of c.meet.new.self)
    c.in_ok-misplaced.misplaced c.in_ok-misplaced.ensures.standing

pub returns-clause-standing : goal.returns-clause-standing
returns-clause-standing c =
    let old = standing_of c.args.self.now in
    let at = place_of c.args.self.now.section in
    let read = c.in-Some.keyword in
    let meant = c.at-keyword.result in
    let word = c.args.keyword.now in
    let text = c.args.arguments.now in
    let new = standing_of c.read_arguments.new.self in
    let met = subst (λ (p : LinePlace). opened_by p meant ≡ opened_by p read) c.place.ensures c.at-keyword.ensures.opened in
    let opens = opens_same at read meant word met c.in-Some.ensures.section in
    let same : said meant (arguments_of text).list ≡ line_said at (word, text) =
    line_at at read meant word text c.in-Some.ensures.named (c.at-keyword.ensures.meant ∙ ap (λ (p : LinePlace). meant_at p read) c.place.ensures) in
    let gives = keyword_from (said meant (arguments_of text).list) text in
    let taken =
    placed (is_section at) meant (section_of meant) c.in_ok-misplaced.misplaced gives text old (standing_of c.meet.new.self) new c.read_arguments.result
    c.in_ok-misplaced.ensures.standing (section_gives meant text) (λ fault is. misplaced_stays at meant fault text old is) c.read_arguments.ensures.standing in
    subst (λ (k : Option mail.Keyword). IsTaken (begins_again (opened at word) k text old) (begun (opened at word) k text old) new c.read_arguments.result)
    (ap (λ (s : Option Said). keyword_from s text) same)
    (subst (λ (s : Option LinePlace). IsTaken (begins_again s gives text old) (begun s gives text old) new c.read_arguments.result) opens taken)

pub returns-clause-view : goal.returns-clause-view
returns-clause-view c =
    let at = place_of c.args.self.now.section in
    let read = c.in-Some.keyword in
    let meant = c.at-keyword.result in
    let word = c.args.keyword.now in
    let text = c.args.arguments.now in
    let same : said meant (arguments_of text).list ≡ line_said at (word, text) =
    line_at at read meant word text c.in-Some.ensures.named (c.at-keyword.ensures.meant ∙ ap (λ (p : LinePlace). meant_at p read) c.place.ensures) in
    let opens = opens_same at read meant word (subst (λ (p : LinePlace). opened_by p meant ≡ opened_by p read) c.place.ensures c.at-keyword.ensures.opened)
    c.in-Some.ensures.section in
    let begins : c.in_ok-misplaced.misplaced ≡ None → section_of meant ≡ opened at word =
    λ none. begins_so (is_section at) meant (section_of meant) c.in_ok-misplaced.misplaced (standing_of c.args.self.now) (standing_of c.meet.new.self)
    c.in_ok-misplaced.ensures.standing none ∙ opens in
    read_view c.read_arguments.result c.in_ok-misplaced.misplaced (section_of meant) (opened at word) (said meant (arguments_of text).list)
    (line_said at (word, text)) (view c.args.self.now) (view c.meet.new.self) (view c.read_arguments.new.self) begins same c.in_ok-misplaced.ensures.view
    c.read_arguments.ensures.placed c.read_arguments.ensures.view

pub returns-clause-titled : goal.returns-clause-titled
returns-clause-titled c =
    let at = place_of c.args.self.now.section in
    let read = c.in-Some.keyword in
    let meant = c.at-keyword.result in
    let word = c.args.keyword.now in
    let text = c.args.arguments.now in
    let same : said meant (arguments_of text).list ≡ line_said at (word, text) =
    line_at at read meant word text c.in-Some.ensures.named (c.at-keyword.ensures.meant ∙ ap (λ (p : LinePlace). meant_at p read) c.place.ensures) in
    let opens = opens_same at read meant word (subst (λ (p : LinePlace). opened_by p meant ≡ opened_by p read) c.place.ensures c.at-keyword.ensures.opened)
    c.in-Some.ensures.section in
    let begins : c.in_ok-misplaced.misplaced ≡ None → section_of meant ≡ opened at word =
    λ none. begins_so (is_section at) meant (section_of meant) c.in_ok-misplaced.misplaced (standing_of c.args.self.now) (standing_of c.meet.new.self)
    c.in_ok-misplaced.ensures.standing none ∙ opens in
    read_titled c.read_arguments.result c.in_ok-misplaced.misplaced (section_of meant) (opened at word) (said meant (arguments_of text).list)
    (line_said at (word, text)) begins same c.read_arguments.ensures.placed c.read_arguments.ensures.titled

pub returns-in_err-misplaced-clause-lines : goal.returns-in_err-misplaced-clause-lines
returns-in_err-misplaced-clause-lines c = λ last line are. c.meet.ensures.lines last are

pub returns-clause-lines : goal.returns-clause-lines
returns-clause-lines c = λ last line are. c.read_arguments.ensures.lines last line (c.meet.ensures.lines last are)

pub returns-clause-accepted : goal.returns-clause-accepted
returns-clause-accepted c =
    let at = place_of c.args.self.now.section in
    let read = c.in-Some.keyword in
    read_accepted c.read_arguments.result c.in_ok-misplaced.misplaced at read c.at-keyword.result c.args.keyword.now c.args.arguments.now c.in-Some.ensures.named
    (c.at-keyword.ensures.meant ∙ ap (λ (p : LinePlace). meant_at p read) c.place.ensures) c.in_ok-misplaced.ensures.fits c.read_arguments.ensures.placed
    c.read_arguments.ensures.clear c.read_arguments.ensures.plain c.read_arguments.ensures.closed

pub returns-clause-unmixed : goal.returns-clause-unmixed
returns-clause-unmixed c =
    let meant = c.at-keyword.result in
    read_unmixed c.read_arguments.result c.in_ok-misplaced.misplaced (section_of meant) (said meant (arguments_of c.args.arguments.now).list) (view c.args.self.now)
    (view c.meet.new.self) (view c.read_arguments.new.self) c.in_ok-misplaced.ensures.view c.read_arguments.ensures.placed c.read_arguments.ensures.unmixed
    c.read_arguments.ensures.view
