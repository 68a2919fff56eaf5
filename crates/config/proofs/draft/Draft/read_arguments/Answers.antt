use Rattle.std.proofs.Common.{◌≡◌, ◌∙◌, ℕ, List, ap, map, sym, Global}
use Rattle.std.specs.Prelude.{Option, None, Some, String, option_and_then, string_bytes}
use Rattle.config.specs.Drafts.{given, standing_of, unless_misplaced}
use Rattle.config_words.specs.Keywords.{section_of}
use Rattle.config_words.specs.Meanings.{Said, said, said_of}
use Rattle.config_words.specs.Settings.{name_given}
use Rattle.config.specs.Sections.{keyword_in}
use Rattle.config.specs.Standing.{keyword_from}
use Rattle.config_words.specs.Words.{arguments_of}
use Rattle.config.proofs.KeywordLemmas.{nothing_from, nothing_given}
use Rattle.config.proofs.NameLemmas.{misplaced_taken, nothing_entered, nothing_said}
use Rattle.config.proofs.draft.Draft.read_arguments.Goals as goal

pub returns-then-contradicts-clause-standing : goal.returns-then-contradicts-clause-standing
returns-then-contradicts-clause-standing c =
    let k = c.args.keyword in
    let text = c.args.arguments.now in
    let says = said k (arguments_of text).list in
    let list = ap (λ (items : List (String Global)). map string_bytes items) c.deref.ensures.value ∙ c.in_ok-arguments.ensures.list in
    let unnamed : name_given (section_of k) (arguments_of text).list ≡ None =
    sym (ap (λ (arguments : List (List ℕ)). name_given (section_of k) arguments) list)
    ∙ (sym c.in_ok-setting.ensures.name ∙ c.contradicts.ensures.name c.if-contradicts.true) in
    let said_so : says ≡ Some (said_of c.in_ok-setting.setting) =
    sym (ap (λ (arguments : List (List ℕ)). said k arguments) list) ∙ c.in_ok-setting.ensures.means in
    let unsaid : option_and_then keyword_in says ≡ None =
    ap (λ (s : Option Said). option_and_then keyword_in s) said_so ∙ c.contradicts.ensures.keyword c.if-contradicts.true in
    nothing_entered (given c.args.misplaced (section_of k) text) (unless_misplaced c.args.misplaced (keyword_from says text)) (standing_of c.args.self.now)
    (nothing_said c.args.misplaced (section_of k) text unnamed)
    (nothing_given c.args.misplaced (keyword_from says text) (nothing_from says text unsaid))

pub returns-in-Some-clause-standing : goal.returns-in-Some-clause-standing
returns-in-Some-clause-standing c =
    let k = c.args.keyword in
    let text = c.args.arguments.now in
    misplaced_taken c.args.misplaced k (section_of k) (keyword_from (said k (arguments_of text).list) text) text (standing_of c.args.self.now) c.in-Some.fault
    c.in-Some.is c.requires
