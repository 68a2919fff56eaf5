-- Keywords: which lines give one, and what those leave that give none.
use Rattle.std.proofs.Common.{◌≡◌, ℕ, Bool, true, false, List, [], ◌∷◌, refl, sym, subst}
use Rattle.std.specs.Prelude.{Option, Some, None, IsSome, not, ◌&&◌, bytes_eq, codes, option_and_then, option_map, if◌then◌else◌}
use Rattle.std.specs.List.{list_all}
use Rattle.mailcore.specs.declared.keywords.Keyword as mail
use Rattle.config_words.specs.declared.fault.FaultKind.{FaultKind}
use Rattle.config_words.specs.declared.fault.FaultKind.TheVariants.{OutsideSection, KeywordTwice}
use Rattle.config_words.specs.declared.keyword.FirstWord.{FirstWord}
use Rattle.config_words.specs.declared.keyword.FirstWord.TheVariants as keyword
use Rattle.config_words.specs.declared.keyword.LinePlace.{LinePlace}
use Rattle.config_words.specs.declared.keyword.LinePlace.TheVariants.{Start, Between, ImapStore, MaildirStore, Channel, Group}
use Rattle.config_words.specs.Keywords.{fits_at, section_of}
use Rattle.config_words.specs.Meanings.{Said, PortIs, PathIs, FarIs, NearIs, CreateIs, ExpungeIs, PatternsAre, SyncIs, ChannelsAre, SaysNothing, all_said, cells_of, names_a_box, one_said, only_said, path_of, patterns_of, place_of, port_of, said, said_of, sides_of, some_of}
use Rattle.config_words.specs.declared.setting.Setting.{Setting}
use Rattle.config_words.specs.declared.setting.Setting.TheVariants as settings
use Rattle.config_words.specs.Settings.{is_argument, name_said}
use Rattle.config_words.specs.Words.{arguments_of, is_plain}
use Rattle.config.specs.Drafts.{IsMisplaced, unless_misplaced}
use Rattle.config.specs.Sections.{keyword_in}
use Rattle.config.specs.Views.{AtChannel, ChannelView, contradicts, is_empty}
use Rattle.config.specs.Standing.{Standing, keyword_again, with_keyword_at, keyword_from}

-- ---- lines that give none

tested : (b : Bool) (s : Option Said) → option_and_then keyword_in s ≡ None → option_and_then keyword_in (if b then s else None) ≡ None
tested true s none = none
tested false s none = refl

mapped : {A : Type 0} (f : A → Said) (o : Option A) → ((x : A) → keyword_in (f x) ≡ None) → option_and_then keyword_in (option_map f o) ≡ None
mapped f None none = refl
mapped f (Some x) none = none x

only_none : (k : FirstWord) (texts : List (List ℕ)) → ((text : List ℕ) → option_and_then keyword_in (one_said k text) ≡ None)
    → option_and_then keyword_in (only_said k texts) ≡ None
only_none k [] none = refl
only_none k (text ∷ []) none = none text
only_none k (text ∷ more ∷ texts) none = refl

all_none : (k : FirstWord) (texts : List (List ℕ)) → (k ≡ keyword.Keyword → ⊥) → option_and_then keyword_in (all_said k texts) ≡ None
all_none keyword.Keyword texts other = absurd (other refl)
all_none keyword.Group [] other = refl
all_none keyword.Group (name ∷ channels) other = refl
all_none keyword.Channels texts other = mapped ChannelsAre (some_of texts) (λ x. refl)
all_none keyword.Patterns texts other = mapped PatternsAre (patterns_of texts) (λ x. refl)
all_none keyword.Sync texts other = mapped SyncIs (cells_of texts) (λ x. refl)
all_none keyword.Port texts other = only_none keyword.Port texts (λ text. mapped PortIs (port_of text) (λ x. refl))
all_none keyword.Path texts other = only_none keyword.Path texts (λ text. mapped PathIs (path_of text) (λ x. refl))
all_none keyword.Far texts other = only_none keyword.Far texts (λ text. mapped (λ place. FarIs place.0 place.1) (place_of text) (λ x. refl))
all_none keyword.Near texts other = only_none keyword.Near texts (λ text. mapped (λ place. NearIs place.0 place.1) (place_of text) (λ x. refl))
all_none keyword.Create texts other = only_none keyword.Create texts (λ text. mapped CreateIs (sides_of text) (λ x. refl))
all_none keyword.Expunge texts other = only_none keyword.Expunge texts (λ text. mapped ExpungeIs (sides_of text) (λ x. refl))
all_none keyword.SyncState texts other = only_none keyword.SyncState texts (λ text. tested (bytes_eq text (codes "*")) (Some SaysNothing) refl)
all_none keyword.SubFolders texts other = only_none keyword.SubFolders texts (λ text. tested (bytes_eq text (codes "Verbatim")) (Some SaysNothing) refl)
all_none keyword.ImapStore texts other = only_none keyword.ImapStore texts (λ text. refl)
all_none keyword.MaildirStore texts other = only_none keyword.MaildirStore texts (λ text. refl)
all_none keyword.Channel texts other = only_none keyword.Channel texts (λ text. refl)
all_none keyword.Host texts other = only_none keyword.Host texts (λ text. refl)
all_none keyword.User texts other = only_none keyword.User texts (λ text. refl)
all_none keyword.Pass texts other = only_none keyword.Pass texts (λ text. refl)
all_none keyword.Inbox texts other = only_none keyword.Inbox texts (λ text. refl)

-- a line that names a mailbox names no section and gives no keyword
pub boxed_says : (setting : Setting) → names_a_box setting ≡ true → (name_said setting ≡ None) × (keyword_in (said_of setting) ≡ None)
boxed_says (settings.Far place) boxed = (refl, refl)
boxed_says (settings.Near place) boxed = (refl, refl)
boxed_says _ boxed = cc

-- where nothing is said no keyword is given
pub nothing_from : (says : Option Said) (text : List ℕ) → option_and_then keyword_in says ≡ None → keyword_from says text ≡ None
nothing_from says text none = by (is_plain text && not (arguments_of text).quoted)
  where
    by : (b : Bool) → (if b then option_and_then keyword_in says else None) ≡ None
    by true = none
    by false = refl

pub nothing_given : (misplaced : Option FaultKind) (given : Option mail.Keyword) → given ≡ None → unless_misplaced misplaced given ≡ None
nothing_given (Some fault) given none = refl
nothing_given None given none = none

-- other words than Keyword give none
other_gives : (k : FirstWord) (text : List ℕ) → (k ≡ keyword.Keyword → ⊥) → keyword_from (said k (arguments_of text).list) text ≡ None
other_gives k text other =
    nothing_from (said k (arguments_of text).list) text
    (tested (list_all is_argument (arguments_of text).list) (all_said k (arguments_of text).list) (all_none k (arguments_of text).list other))

-- nor does the first line of a section
pub section_gives : (k : FirstWord) (text : List ℕ) → IsSome (section_of k) → keyword_from (said k (arguments_of text).list) text ≡ None
section_gives keyword.Keyword text begins = cc
section_gives k text begins = other_gives k text (λ is. cc)

-- ---- what they leave

-- nothing has changed, and nothing is said again
abbrev pub StaysAt : LinePlace → Option mail.Keyword → Standing → Type 0
StaysAt at given s = (with_keyword_at at given s ≡ s) × (keyword_again at given s ≡ None)

pub none_stays : (at : LinePlace) (s : Standing) → StaysAt at None s
none_stays Start s = (refl, refl)
none_stays Between s = (refl, refl)
none_stays ImapStore s = (refl, refl)
none_stays MaildirStore s = (refl, refl)
none_stays Channel s = (refl, refl)
none_stays Group s = (refl, refl)

pub none_stays_so : (at : LinePlace) (given : Option mail.Keyword) (s : Standing) → given ≡ None → StaysAt at given s
none_stays_so at given s none = subst (λ (k : Option mail.Keyword). StaysAt at k s) (sym none) (none_stays at s)

outside_stays : (at : LinePlace) (given : Option mail.Keyword) (s : Standing) → fits_at at keyword.Keyword ≡ false → StaysAt at given s
outside_stays Start given s outside = cc
outside_stays Between given s outside = (refl, refl)
outside_stays ImapStore given s outside = (refl, refl)
outside_stays MaildirStore given s outside = (refl, refl)
outside_stays Channel given s outside = cc
outside_stays Group given s outside = (refl, refl)

-- a misplaced line gives no keyword
pub misplaced_stays : (at : LinePlace) (k : FirstWord) (fault : FaultKind) (text : List ℕ) (s : Standing) → IsMisplaced at k fault
    → StaysAt at (keyword_from (said k (arguments_of text).list) text) s
misplaced_stays at keyword.Keyword OutsideSection text s misplaced = outside_stays at _ s misplaced
misplaced_stays at keyword.Keyword KeywordTwice text s misplaced = cc
misplaced_stays at keyword.Keyword fault text s misplaced = absurd misplaced
misplaced_stays at k fault text s misplaced = none_stays_so at _ s (other_gives k text (λ is. cc))

-- where a line names no pattern, it contradicts a channel exactly if it names a mailbox and the channel has patterns
pub boxed_among : (c : ChannelView) (setting : Setting) → ((patterns : _) → setting ≡ settings.Patterns patterns → ⊥)
    → contradicts (AtChannel c) (said_of setting) ≡ (names_a_box setting && not (is_empty c.patterns))
boxed_among c (settings.Far place) other = refl
boxed_among c (settings.Near place) other = refl
boxed_among c (settings.Patterns patterns) other = absurd (other patterns refl)
boxed_among c _ other = refl
