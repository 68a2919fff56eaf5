-- What lines make of the sections of a text is what each of them changes of a draft.
use Rattle.std.proofs.Common.{◌≡◌, ◌∙◌, ℕ, Bool, true, false, List, [], ◌∷◌, ◌++◌, append_assoc, map, refl, ap, sym, subst}
use Rattle.std.specs.Prelude.{Option, Some, None, IsSome, Result, Ok, Err, OnOk, fold, flat_map, unwrap_or, option_and_then, option_to_list, codes, if◌then◌else◌}
use Rattle.std.specs.Str.{str_eq_ignore_ascii_case}
use Rattle.std.specs.Option.{option_or}
use Rattle.std.proofs.lemmas.List.{append-nil, map-append}
use Rattle.std.proofs.lemmas.List.Sums.{fold-append}
use Rattle.config_words.specs.declared.keyword.LinePlace.{LinePlace}
use Rattle.config_words.specs.declared.keyword.LinePlace.TheVariants.{Start, Between, ImapStore, MaildirStore, Channel, Group}
use Rattle.config_words.specs.Meanings.{Said, SectionIs, GroupIs, FarIs, NearIs, ChannelsAre}
use Rattle.config_words.specs.declared.fault.FaultKind.{FaultKind}
use Rattle.config_words.specs.declared.keyword.FirstWord.{FirstWord}
use Rattle.config_words.specs.Keywords.{fits_at, keyword_named, meant_at}
use Rattle.config_words.specs.Meanings.{said}
use Rattle.config_words.specs.Places.{is_section, opened, section_named}
use Rattle.config_words.specs.Words.{arguments_of, is_plain}
use Rattle.config.specs.Accepted.{IsAccepted, IsClear, fits_named}
use Rattle.config.specs.declared.draft.Draft.{Draft}
use Rattle.config.specs.declared.section.Section.{Section}
use Rattle.config.specs.declared.section.Section.TheVariants as sections
use Rattle.config.specs.Drafts.{IsMet, place_of}
use Rattle.config.specs.Meant.{IsDrawn}
use Rattle.config.specs.Standing.{Standing}
use Rattle.config.specs.Configurations.{Meaning, Part, Parts, add_at, begin_at, ended, ended_if, channel_names, imap_names, maildir_names, meaning_of, no_meaning, parted_words, said_at, with_section}
use Rattle.config.specs.Sections.{ChannelMeaning, ImapMeaning, IsTitled, also_given, channel_of, channels_in, far_in, near_in, host_in, imap_store_of, keywords_of, later, line_said, patterns_in, place_among, port_in, store_at, the, title_in, user_in, pass_in, path_in, inbox_in, cells_in, create_in, expunge_in}
use Rattle.config.specs.Views.{AtStart, AtImapStore, AtMaildirStore, AtChannel, AtGroup, AtBetween, ChannelView, MaildirView, MannerView, Sketch, View, sketch, view, begun_view, channel_said, ended_view, imap_with, is_mixed, open_names, maildir_said, maildir_with, manner_said, manner_with, part_sketch, view_from, view_of, view_said, view_with}
use Rattle.config.proofs.UnmixedLemmas.{ended_unmixed, words_unmixed}

-- ---- one line more

the_more : {A : Type 0} (f : Said → Option A) (says : List Said) (s : Said) → the f (says ++ s ∷ []) ≡ option_or (f s) (the f says)
the_more f says s = fold-append (later f) None says (s ∷ [])

port_more : (new old : Option ℕ) (n : ℕ) → unwrap_or (option_or new old) n ≡ unwrap_or new (unwrap_or old n)
port_more (Some p) old n = refl
port_more None old n = refl

flat_more : (f : Said → List (List ℕ)) (says : List Said) (s : Said) → flat_map f (says ++ s ∷ []) ≡ flat_map f says ++ f s
flat_more f [] s = append-nil (f s)
flat_more f (x ∷ says) s = ap (λ (l : List (List ℕ)). f x ++ l) (flat_more f says s) ∙ cc (append_assoc (f x) (flat_map f says) (f s))

imap_more : (says : List Said) (s : Said) → imap_store_of [] (says ++ s ∷ []) ≡ imap_with s (imap_store_of [] says)
imap_more says s =
    simp (the_more host_in says s, the_more port_in says s, the_more user_in says s, the_more pass_in says s, port_more (port_in s) (the port_in says) 143)

maildir_more : (says : List Said) (s : Said) → maildir_said (says ++ s ∷ []) ≡ maildir_with s (maildir_said says)
maildir_more says s = simp (the_more path_in says s, the_more inbox_in says s)

keywords_more : (says : List Said) (s : Said) → keywords_of (says ++ s ∷ []) ≡ also_given (keywords_of says) s
keywords_more says s = fold-append also_given [] says (s ∷ [])

manner_more : (says : List Said) (s : Said) → manner_said (says ++ s ∷ []) ≡ manner_with s (manner_said says)
manner_more says s = simp (the_more cells_in says s, the_more create_in says s, the_more expunge_in says s, keywords_more says s)

-- ---- a line of words

-- a keyword that may stand here begins what its word begins
pub begins_so : (within : Bool) (k : FirstWord) (section : Option LinePlace) (misplaced : Option FaultKind) (old mid : Standing) → IsMet within k section old mid misplaced
    → misplaced ≡ None → section ≡ (if within then None else section)
begins_so false k section misplaced old mid met none = refl
begins_so true k None misplaced old mid met none = refl
begins_so true k (Some p) None old mid met none = absurd met
begins_so true k (Some p) (Some fault) old mid met none = cc

pub line_at : (at : LinePlace) (read meant : FirstWord) (word text : List ℕ) → Some read ≡ keyword_named word → meant ≡ meant_at at read
    → said meant (arguments_of text).list ≡ line_said at (word, text)
line_at at read meant word text named is =
    ap (λ (k : FirstWord). said k (arguments_of text).list) is
    ∙ ap (λ (w : Option FirstWord). option_and_then (λ (k : FirstWord). said (meant_at at k) (arguments_of text).list) w) named

pub read_view : (r : Result (Unit {0}) FaultKind) (misplaced : Option FaultKind) (section begins : Option LinePlace) (s line : Option Said) (old mid new : View)
    → (misplaced ≡ None → section ≡ begins) → s ≡ line → (misplaced ≡ None → mid ≡ begun_view section old) → OnOk r (misplaced ≡ None)
    → OnOk r (new ≡ view_said s mid) → OnOk r (new ≡ view_said line (begun_view begins old))
read_view (Ok done) misplaced section begins s line old mid new opens same met placed known =
    known
    ∙ (ap (λ (w : Option Said). view_said w mid) same
    ∙ ap (λ (v : View). view_said line v) (met placed ∙ ap (λ (p : Option LinePlace). begun_view p old) (opens placed)))
read_view (Err fault) misplaced section begins s line old mid new opens same met placed known = tt

pub read_titled : (r : Result (Unit {0}) FaultKind) (misplaced : Option FaultKind) (section begins : Option LinePlace) (s line : Option Said)
    → (misplaced ≡ None → section ≡ begins) → s ≡ line → OnOk r (misplaced ≡ None) → OnOk r (IsTitled section s) → OnOk r (IsTitled begins line)
read_titled (Ok done) misplaced section begins s line opens same placed known =
    subst (λ (w : Option Said). IsTitled begins w) same (subst (λ (p : Option LinePlace). IsTitled p s) (opens placed) known)
read_titled (Err fault) misplaced section begins s line opens same placed known = tt

pub read_accepted : (r : Result (Unit {0}) FaultKind) (misplaced : Option FaultKind) (at : LinePlace) (read meant : FirstWord) (word text : List ℕ)
    → Some read ≡ keyword_named word → meant ≡ meant_at at read → (misplaced ≡ None → fits_at at meant ≡ true) → OnOk r (misplaced ≡ None)
    → OnOk r (IsClear (said meant (arguments_of text).list)) → OnOk r (is_plain text ≡ true) → OnOk r ((arguments_of text).quoted ≡ false)
    → OnOk r (IsAccepted at (word, text))
read_accepted (Ok done) misplaced at read meant word text named is fits placed clear plain closed = record {
  fits = sym (ap (λ (k : Option FirstWord). fits_named at k) named) ∙ (sym (ap (λ (k : FirstWord). fits_at at k) is) ∙ fits placed);
  plain = plain;
  closed = closed;
  says = subst (λ (s : Option Said). IsClear s) (line_at at read meant word text named is) clear;
}
read_accepted (Err fault) misplaced at read meant word text named is fits placed clear plain closed = tt

-- ---- one line more of a section, or before any

abbrev channel_grown : (a b : List (List ℕ)) → Said → List Said → ChannelView
channel_grown a b s says = record {
  far = store_at a (option_or (far_in s) (the far_in says));
  far_box = option_and_then (λ p. p.1) (option_or (far_in s) (the far_in says));
  near = store_at b (option_or (near_in s) (the near_in says));
  near_box = option_and_then (λ p. p.1) (option_or (near_in s) (the near_in says));
  patterns = flat_map patterns_in says ++ patterns_in s;
  manner = manner_with s (manner_said says);
}

channel_more : (a b : List (List ℕ)) (says : List Said) (s : Said) → channel_said a b (says ++ s ∷ []) ≡ channel_grown a b s says
channel_more a b says s = simp (the_more far_in says s, the_more near_in says s, flat_more patterns_in says s, manner_more says s)

abbrev part : LinePlace → List ℕ → List Said → Part
part kind name says = record { kind = kind; name = name; says = says }

abbrev parts : List Said → List Part → Part → Parts
parts before ends current = record { before = before; ended = ends; current = current }

abbrev shown : Meaning → Sketch → List ℕ → MannerView → List (List ℕ) → View
shown m section name before names = record {
  section = section;
  name = name;
  before = before;
  imap_stores = m.imap_stores;
  maildir_stores = m.maildir_stores;
  channels = m.channels;
  groups = m.groups;
  named = names;
}

at_start : (m : Meaning) (s : Said) (name : List ℕ) (before : MannerView) (names : List (List ℕ)) → title_in s ≡ None
    → view_with s (shown m AtStart name before names) ≡ shown m AtStart name (manner_with s before) names
at_start m (SectionIs n) name before names none = cc
at_start m (GroupIs n cs) name before names none = cc
at_start m _ name before names none = refl

at_between : (m : Meaning) (s : Said) (name : List ℕ) (before : MannerView) (names : List (List ℕ)) → title_in s ≡ None
    → view_with s (shown m AtBetween name before names) ≡ shown m AtBetween name before names
at_between m (SectionIs n) name before names none = cc
at_between m (GroupIs n cs) name before names none = cc
at_between m _ name before names none = refl

at_imap : (m : Meaning) (s : Said) (i : ImapMeaning) (name : List ℕ) (before : MannerView) (names : List (List ℕ)) → title_in s ≡ None
    → view_with s (shown m (AtImapStore i) name before names) ≡ shown m (AtImapStore (imap_with s i)) name before names
at_imap m (SectionIs n) i name before names none = cc
at_imap m (GroupIs n cs) i name before names none = cc
at_imap m _ i name before names none = refl

at_maildir : (m : Meaning) (s : Said) (i : MaildirView) (name : List ℕ) (before : MannerView) (names : List (List ℕ)) → title_in s ≡ None
    → view_with s (shown m (AtMaildirStore i) name before names) ≡ shown m (AtMaildirStore (maildir_with s i)) name before names
at_maildir m (SectionIs n) i name before names none = cc
at_maildir m (GroupIs n cs) i name before names none = cc
at_maildir m _ i name before names none = refl

-- channels to which none are added
alone : (m : Meaning) (channels : List (List ℕ)) (name : List ℕ) (before : MannerView) (names : List (List ℕ))
    → shown m (AtGroup channels) name before names ≡ shown m (AtGroup (channels ++ [])) name before names
alone m channels name before names = ap (λ (l : List (List ℕ)). shown m (AtGroup l) name before names) (sym (append-nil channels))

at_group : (m : Meaning) (s : Said) (channels : List (List ℕ)) (name : List ℕ) (before : MannerView) (names : List (List ℕ)) → title_in s ≡ None
    → view_with s (shown m (AtGroup channels) name before names) ≡ shown m (AtGroup (channels ++ channels_in s)) name before names
at_group m (SectionIs n) channels name before names none = cc
at_group m (GroupIs n cs) channels name before names none = cc
at_group m (ChannelsAre cs) channels name before names none = refl
at_group m _ channels name before names none = alone m channels name before names

-- patterns to which none are added
unchanged : (m : Meaning) (c : ChannelView) (name : List ℕ) (before : MannerView) (names : List (List ℕ))
    → shown m (AtChannel c) name before names ≡ shown m (AtChannel (record c { patterns = c.patterns ++ [] })) name before names
unchanged m c name before names =
    ap (λ (l : List (List ℕ)). shown m (AtChannel (record c { patterns = l })) name before names) (sym (append-nil c.patterns))

at_channel : (m : Meaning) (s : Said) (says : List Said) (name : List ℕ) (before : MannerView) (names : List (List ℕ)) → title_in s ≡ None
    → view_with s (shown m (AtChannel (channel_said (imap_names m) (maildir_names m) says)) name before names)
    ≡ shown m (AtChannel (channel_grown (imap_names m) (maildir_names m) s says)) name before names
at_channel m (SectionIs n) says name before names none = cc
at_channel m (GroupIs n cs) says name before names none = cc
at_channel m (FarIs store box) says name before names none =
    unchanged m (record (channel_said (imap_names m) (maildir_names m) says) { far = place_among (imap_names m) store; far_box = box }) name before names
at_channel m (NearIs store box) says name before names none =
    unchanged m (record (channel_said (imap_names m) (maildir_names m) says) { near = place_among (maildir_names m) store; near_box = box }) name before names
at_channel m (ChannelsAre cs) says name before names none = unchanged m (channel_said (imap_names m) (maildir_names m) says) name before names
at_channel m _ says name before names none = refl

add_view : (m : Meaning) (s : Said) (before : List Said) (ends : List Part) (kind : LinePlace) (name : List ℕ) (says : List Said) → title_in s ≡ None
    → view_with s (view_from m (parts before ends (part kind name says))) ≡ view_from m (add_at kind (s ∷ []) (parts before ends (part kind name says)))
add_view m s before ends Start name says none =
    at_start m s name (manner_said before) (channel_names m ++ []) none
    ∙ ap (λ (b : MannerView). shown m AtStart name b (channel_names m ++ [])) (sym (manner_more before s))
add_view m s before ends Between name says none = at_between m s name (manner_said before) (channel_names m ++ []) none
add_view m s before ends ImapStore name says none =
    at_imap m s (imap_store_of [] says) name (manner_said before) (channel_names m ++ []) none
    ∙ ap (λ (i : ImapMeaning). shown m (AtImapStore i) name (manner_said before) (channel_names m ++ [])) (sym (imap_more says s))
add_view m s before ends MaildirStore name says none =
    at_maildir m s (maildir_said says) name (manner_said before) (channel_names m ++ []) none
    ∙ ap (λ (i : MaildirView). shown m (AtMaildirStore i) name (manner_said before) (channel_names m ++ [])) (sym (maildir_more says s))
add_view m s before ends Channel name says none =
    at_channel m s says name (manner_said before) (channel_names m ++ name ∷ []) none
    ∙ ap (λ (c : ChannelView). shown m (AtChannel c) name (manner_said before) (channel_names m ++ name ∷ []))
    (sym (channel_more (imap_names m) (maildir_names m) says s))
add_view m s before ends Group name says none =
    at_group m s (flat_map channels_in says) name (manner_said before) (channel_names m ++ []) none
    ∙ ap (λ (l : List (List ℕ)). shown m (AtGroup l) name (manner_said before) (channel_names m ++ [])) (sym (flat_more channels_in says s))

-- ---- the first line of a section

pub none_open : (kind : LinePlace) (name : List ℕ) → is_section kind ≡ false → open_names kind name ≡ []
none_open Start name closed = refl
none_open Between name closed = refl
none_open ImapStore name closed = refl
none_open MaildirStore name closed = refl
none_open Channel name closed = cc
none_open Group name closed = refl

-- a section of this name begins where none is open, which is a channel or is not
begun_other : (m : Meaning) (section : Sketch) (name : List ℕ) (before : MannerView) (still : List (List ℕ)) → still ≡ []
    → shown m section name before (channel_names m ++ still) ≡ shown m section name before (channel_names m ++ [])
begun_other m section name before still none = ap (λ (l : List (List ℕ)). shown m section name before (channel_names m ++ l)) none

begun_channel : (m : Meaning) (section : Sketch) (name : List ℕ) (before : MannerView) (still : List (List ℕ)) → still ≡ []
    → shown m section name before ((channel_names m ++ still) ++ name ∷ []) ≡ shown m section name before (channel_names m ++ name ∷ [])
begun_channel m section name before still none =
    ap (λ (l : List (List ℕ)). shown m section name before ((channel_names m ++ l) ++ name ∷ [])) none
    ∙ ap (λ (l : List (List ℕ)). shown m section name before (l ++ name ∷ [])) (append-nil (channel_names m))

first_view : (m : Meaning) (kind : LinePlace) (s : Said) (p : Parts) → is_section kind ≡ true → is_section p.current.kind ≡ false → IsSome (title_in s)
    → view_with s (begun_view (Some kind) (view_from m p)) ≡ view_from m (begin_at kind (Some s) p)
first_view m kind (SectionIs n) p section closed some = by kind section
  where
    still : List (List ℕ)
    still = open_names p.current.kind p.current.name

    none : still ≡ []
    none = none_open p.current.kind p.current.name closed

    by : (k : LinePlace) → is_section k ≡ true → view_with (SectionIs n) (begun_view (Some k) (view_from m p)) ≡ view_from m (begin_at k (Some (SectionIs n)) p)
    by Start section = cc
    by Between section = cc
    by ImapStore section = begun_other m (AtImapStore (imap_store_of [] [])) n (manner_said p.before) still none
    by MaildirStore section = begun_other m (AtMaildirStore (maildir_said [])) n (manner_said p.before) still none
    by Channel section = begun_channel m (AtChannel (channel_said [] [] [])) n (manner_said p.before) still none
    by Group section = begun_other m (AtGroup []) n (manner_said p.before) still none
first_view m kind (GroupIs n cs) p section closed some = by kind section
  where
    still : List (List ℕ)
    still = open_names p.current.kind p.current.name

    none : still ≡ []
    none = none_open p.current.kind p.current.name closed

    by : (k : LinePlace) → is_section k ≡ true → view_with (GroupIs n cs) (begun_view (Some k) (view_from m p)) ≡ view_from m (begin_at k (Some (GroupIs n cs)) p)
    by Start section = cc
    by Between section = cc
    by ImapStore section = begun_other m (AtImapStore (imap_store_of [] [])) n (manner_said p.before) still none
    by MaildirStore section = begun_other m (AtMaildirStore (maildir_said [])) n (manner_said p.before) still none
    by Channel section = begun_channel m (AtChannel (channel_said [] [] [])) n (manner_said p.before) still none
    by Group section =
        begun_other m (AtGroup cs) n (manner_said p.before) still none ∙ alone m cs n (manner_said p.before) (channel_names m ++ [])
first_view m kind _ p section closed some = cc

said_view : (m : Meaning) (begins : Option LinePlace) (s : Option Said) (p : Parts) → ((kind : LinePlace) → begins ≡ Some kind → is_section kind ≡ true)
    → ((kind : LinePlace) → begins ≡ Some kind → is_section p.current.kind ≡ false) → IsTitled begins s
    → view_said s (begun_view begins (view_from m p)) ≡ view_from m (said_at begins s p)
said_view m None None p sections closed titled = absurd titled
said_view m None (Some s) p sections closed titled = add_view m s p.before p.ended p.current.kind p.current.name p.current.says titled
said_view m (Some kind) None p sections closed titled = absurd titled
said_view m (Some kind) (Some s) p sections closed titled = first_view m kind s p (sections kind refl) (closed kind refl) titled

-- ---- what stays

added_meaning : (kind : LinePlace) (says : List Said) (p : Parts) → (kind ≡ Start → p.ended ≡ []) → meaning_of (add_at kind says p) ≡ meaning_of p
added_meaning Start says p first =
    ap (λ (l : List Part). fold (with_section (p.before ++ says)) no_meaning l) (first refl)
    ∙ sym (ap (λ (l : List Part). fold (with_section p.before) no_meaning l) (first refl))
added_meaning Between says p first = refl
added_meaning ImapStore says p first = refl
added_meaning MaildirStore says p first = refl
added_meaning Channel says p first = refl
added_meaning Group says p first = refl

said_meaning : (begins : Option LinePlace) (s : Option Said) (p : Parts) → (p.current.kind ≡ Start → p.ended ≡ []) → meaning_of (said_at begins s p) ≡ meaning_of p
said_meaning None s p first = added_meaning p.current.kind (option_to_list s) p first
said_meaning (Some kind) s p first = refl

added_first : (kind : LinePlace) (says : List Said) (p : Parts) → (p.current.kind ≡ Start → p.ended ≡ [])
    → (add_at kind says p).current.kind ≡ Start → (add_at kind says p).ended ≡ []
added_first Start says p first = first
added_first Between says p first = first
added_first ImapStore says p first = first
added_first MaildirStore says p first = first
added_first Channel says p first = first
added_first Group says p first = first

said_first : (begins : Option LinePlace) (s : Option Said) (p : Parts) → ((kind : LinePlace) → begins ≡ Some kind → is_section kind ≡ true)
    → (p.current.kind ≡ Start → p.ended ≡ []) → (said_at begins s p).current.kind ≡ Start → (said_at begins s p).ended ≡ []
said_first None s p sections first = added_first p.current.kind (option_to_list s) p first
said_first (Some kind) s p sections first = λ start. absurd (none (sym (ap is_section start) ∙ sections kind refl))
  where
    none : false ≡ true → ⊥
    none is = cc

-- ---- places

named_section : (word : List ℕ) (kind : LinePlace) → section_named word ≡ Some kind → is_section kind ≡ true
named_section word kind =
    by (str_eq_ignore_ascii_case word (codes "IMAPStore")) (str_eq_ignore_ascii_case word (codes "MaildirStore")) (str_eq_ignore_ascii_case word (codes "Channel"))
    (str_eq_ignore_ascii_case word (codes "Group"))
  where
    so : (k : LinePlace) → Some k ≡ Some kind → is_section k ≡ true → is_section kind ≡ true
    so k is section = let same : k ≡ kind = cc in subst (λ (x : LinePlace). is_section x ≡ true) same section

    by : (a b c d : Bool)
        → (if a then Some ImapStore else (if b then Some MaildirStore else (if c then Some Channel else (if d then Some Group else None)))) ≡ Some kind
        → is_section kind ≡ true
    by true b c d is = so ImapStore is refl
    by false true c d is = so MaildirStore is refl
    by false false true d is = so Channel is refl
    by false false false true is = so Group is refl
    by false false false false is = cc

opened_section : (at : LinePlace) (word : List ℕ) (kind : LinePlace) → opened at word ≡ Some kind → is_section kind ≡ true
opened_section at word kind = by (is_section at)
  where
    by : (b : Bool) → (if b then None else section_named word) ≡ Some kind → is_section kind ≡ true
    by true is = cc
    by false is = named_section word kind is

opened_outside : (at : LinePlace) (word : List ℕ) (kind : LinePlace) → opened at word ≡ Some kind → is_section at ≡ false
opened_outside at word kind = by (is_section at)
  where
    by : (b : Bool) → (if b then None else section_named word) ≡ Some kind → b ≡ false
    by true is = cc
    by false is = refl

abbrev place_in : Sketch → LinePlace
place_in AtStart = Start
place_in (AtImapStore m) = ImapStore
place_in (AtMaildirStore m) = MaildirStore
place_in (AtChannel c) = Channel
place_in (AtGroup channels) = Group
place_in AtBetween = Between

place_sketched : (section : Section) → place_of section ≡ place_in (sketch section)
place_sketched sections.Start = refl
place_sketched sections.Between = refl
place_sketched (sections.ImapStore draft) = refl
place_sketched (sections.MaildirStore draft) = refl
place_sketched (sections.Channel draft) = refl
place_sketched (sections.Group draft) = refl

place_parted : (a b : List (List ℕ)) (kind : LinePlace) (says : List Said) → place_in (part_sketch a b kind says) ≡ kind
place_parted a b Start says = refl
place_parted a b Between says = refl
place_parted a b ImapStore says = refl
place_parted a b MaildirStore says = refl
place_parted a b Channel says = refl
place_parted a b Group says = refl

pub at_drawn : (p : Parts) (d : Draft) → IsDrawn p d → place_of d.section ≡ p.current.kind
at_drawn p d is =
    place_sketched d.section
    ∙ (ap (λ (v : View). place_in v.section) is.view ∙ place_parted (imap_names (meaning_of p)) (maildir_names (meaning_of p)) p.current.kind p.current.says)

-- ---- a draft after a line of words, and after a section

pub drawn_words : (p : Parts) (words : List ℕ × List ℕ) (old new : Draft) → IsDrawn p old
    → view new ≡ view_said (line_said (place_of old.section) words) (begun_view (opened (place_of old.section) words.0) (view old))
    → IsTitled (opened (place_of old.section) words.0) (line_said (place_of old.section) words)
    → (is_mixed (view old).section ≡ false → is_mixed (view new).section ≡ false) → IsDrawn (parted_words (Some words) p) new
drawn_words p words old new is shows titles unmixed =
    let at = p.current.kind in
    let begins = opened at words.0 in
    let s = line_said at words in
    let same : place_of old.section ≡ at = at_drawn p old is in
    let sections : (kind : LinePlace) → begins ≡ Some kind → is_section kind ≡ true = opened_section at words.0 in
    let closed : (kind : LinePlace) → begins ≡ Some kind → is_section at ≡ false = opened_outside at words.0 in
    let titled = subst (λ (k : LinePlace). IsTitled (opened k words.0) (line_said k words)) same titles in
    let here : view new ≡ view_said s (begun_view begins (view old)) =
    subst (λ (k : LinePlace). view new ≡ view_said (line_said k words) (begun_view (opened k words.0) (view old))) same shows in
    let drawn : view new ≡ view_of (said_at begins s p) =
    here
    ∙ (ap (λ (v : View). view_said s (begun_view begins v)) is.view
    ∙ (said_view (meaning_of p) begins s p sections closed titled
    ∙ ap (λ (m : Meaning). view_from m (said_at begins s p)) (sym (said_meaning begins s p is.first)))) in
    record {
      view = drawn;
      first = said_first begins s p sections is.first;
      unmixed = words_unmixed begins s p (view old) (view new) is.unmixed is.view drawn unmixed;
    }

following : (before : List Said) (ends : List Part) (s : Part)
    → view_of (ended_if true (parts before ends s)) ≡ view_from (with_section before (meaning_of (parts before ends s)) s) (ended_if true (parts before ends s))
following before ends s = ap (λ (m : Meaning). view_from m (ended_if true (parts before ends s))) (fold-append (with_section before) no_meaning ends (s ∷ []))

-- a channel more
more_names : (m : Meaning) (names : List (List ℕ)) (c : ChannelMeaning) → names ≡ channel_names m ++ c.name ∷ []
    → names ≡ channel_names (record m { channels = m.channels ++ c ∷ [] }) ++ []
more_names m names c is =
    is ∙ (sym (map-append (λ (x : ChannelMeaning). x.name) m.channels (c ∷ []))
    ∙ sym (append-nil (map (λ (x : ChannelMeaning). x.name) (m.channels ++ c ∷ []))))

-- the section that has ended
end_view : (before : List Said) (ends : List Part) (kind : LinePlace) (name : List ℕ) (says : List Said)
    → ended_view (is_section kind) (view_of (parts before ends (part kind name says))) ≡ view_of (ended (parts before ends (part kind name says)))
end_view before ends Start name says = refl
end_view before ends Between name says = refl
end_view before ends ImapStore name says = sym (following before ends (part ImapStore name says))
end_view before ends MaildirStore name says = sym (following before ends (part MaildirStore name says))
end_view before ends Channel name says =
    let m = meaning_of (parts before ends (part Channel name says)) in
    let c = channel_of (imap_names m) (maildir_names m) before name says in
    ap (λ (names : List (List ℕ)). record (view_from (record m { channels = m.channels ++ c ∷ [] }) (ended_if true (parts before ends (part Channel name says)))) { named = names })
    (more_names m (channel_names m ++ name ∷ []) c refl)
    ∙ sym (following before ends (part Channel name says))
end_view before ends Group name says = sym (following before ends (part Group name says))

pub drawn_end : (p : Parts) (old new : Draft) → IsDrawn p old → view new ≡ ended_view (is_section (place_of old.section)) (view old) → IsDrawn (ended p) new
drawn_end p old new is shows = record {
  view = shows
      ∙ (ap (λ (k : LinePlace). ended_view (is_section k) (view old)) (at_drawn p old is)
      ∙ (ap (λ (v : View). ended_view (is_section p.current.kind) v) is.view ∙ end_view p.before p.ended p.current.kind p.current.name p.current.says));
  first = by (is_section p.current.kind);
  unmixed = ended_unmixed p (is_section p.current.kind) is.unmixed;
}
  where
    by : (b : Bool) → (ended_if b p).current.kind ≡ Start → (ended_if b p).ended ≡ []
    by false start = is.first start
    by true start = cc
