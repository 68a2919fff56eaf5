-- A channel that names a mailbox keeps without patterns, and the sections of a text do.
use Rattle.std.proofs.Common.{◌≡◌, ◌∙◌, ℕ, Bool, true, false, List, [], ◌∷◌, ◌++◌, refl, ap, sym, subst}
use Rattle.std.specs.Prelude.{All, Option, Some, None, Result, Ok, Err, OnOk, not, ◌&&◌, ◌||◌, is_some, flat_map}
use Rattle.std.proofs.lemmas.List.Elements.{All-nil, All-push}
use Rattle.config_words.specs.declared.fault.FaultKind.{FaultKind}
use Rattle.config_words.specs.declared.keyword.LinePlace.{LinePlace}
use Rattle.config_words.specs.declared.keyword.LinePlace.TheVariants.{Start, Between, ImapStore, MaildirStore, Channel, Group}
use Rattle.config_words.specs.Meanings.{Said, SectionIs, GroupIs, FarIs, NearIs, PatternsAre, ChannelsAre}
use Rattle.config.specs.Accepted.{AreUnmixed, IsOneOrMatching, names_box}
use Rattle.config.specs.Configurations.{Part, Parts, add_at, ended, ended_if, said_at}
use Rattle.config.specs.Sections.{patterns_in}
use Rattle.config.specs.Views.{AtStart, AtImapStore, AtMaildirStore, AtChannel, AtGroup, AtBetween, IsUnmixed, Sketch, View, begun_view, contradicts, is_empty, is_mixed, part_sketch, sketch_at, sketch_with, view_of, view_said, view_with, with_far, with_members, with_near}

-- ---- one line more of a section

with_other : (a b c e : Bool) → ((a || b) && e) ≡ false → (c && e) ≡ false → ((c || b) && e) ≡ false
with_other a b true e old new = new
with_other true true false e old new = old
with_other true false false e old new = refl
with_other false b false e old new = old

with_second : (a b c e : Bool) → ((a || b) && e) ≡ false → (c && e) ≡ false → ((a || c) && e) ≡ false
with_second true b c e old new = old
with_second false b c e old new = new

no_more : (ps : List (List ℕ)) → is_empty (ps ++ []) ≡ is_empty ps
no_more [] = refl
no_more (p ∷ ps) = refl

far_stays : (store : Option ℕ) (box : Option (List ℕ)) (name : List ℕ) (k : Sketch) → contradicts k (FarIs name box) ≡ false → is_mixed k ≡ false
    → is_mixed (with_far store box k) ≡ false
far_stays store box name (AtChannel c) says old = with_other (is_some c.far_box) (is_some c.near_box) (is_some box) (not (is_empty c.patterns)) old says
far_stays store box name _ says old = refl

near_stays : (store : Option ℕ) (box : Option (List ℕ)) (name : List ℕ) (k : Sketch) → contradicts k (NearIs name box) ≡ false → is_mixed k ≡ false
    → is_mixed (with_near store box k) ≡ false
near_stays store box name (AtChannel c) says old = with_second (is_some c.far_box) (is_some c.near_box) (is_some box) (not (is_empty c.patterns)) old says
near_stays store box name _ says old = refl

members_stay : (names : List (List ℕ)) (k : Sketch) → is_mixed k ≡ false → is_mixed (with_members names k) ≡ false
members_stay names (AtGroup channels) old = refl
members_stay names (AtChannel c) old = old
members_stay names _ old = refl

patterns_stay : (ps : List (List ℕ)) (k : Sketch) → contradicts k (PatternsAre ps) ≡ false → is_mixed (sketch_with (PatternsAre ps) k) ≡ false
patterns_stay ps (AtChannel c) says = ap (λ (b : Bool). b && not (is_empty (c.patterns ++ ps))) says
patterns_stay ps _ says = refl

other_stays : (s : Said) (k : Sketch) → patterns_in s ≡ [] → is_mixed k ≡ false → is_mixed (sketch_with s k) ≡ false
other_stays s (AtChannel c) none old =
    ap (λ (ps : List (List ℕ)). (is_some c.far_box || is_some c.near_box) && not (is_empty (c.patterns ++ ps))) none
    ∙ (ap (λ (b : Bool). (is_some c.far_box || is_some c.near_box) && not b) (no_more c.patterns) ∙ old)
other_stays s _ none old = refl

line_stays : (s : Said) (v : View) → contradicts v.section s ≡ false → is_mixed v.section ≡ false → is_mixed (view_with s v).section ≡ false
line_stays (SectionIs name) v says old = old
line_stays (GroupIs name channels) v says old = members_stay channels v.section old
line_stays (ChannelsAre channels) v says old = members_stay channels v.section old
line_stays (FarIs store box) v says old = far_stays _ box store v.section says old
line_stays (NearIs store box) v says old = near_stays _ box store v.section says old
line_stays (PatternsAre ps) v says old = patterns_stay ps v.section says
line_stays s v says old = other_stays s v.section refl old

begun_unmixed : (k : LinePlace) → is_mixed (sketch_at k) ≡ false
begun_unmixed Start = refl
begun_unmixed Between = refl
begun_unmixed ImapStore = refl
begun_unmixed MaildirStore = refl
begun_unmixed Channel = refl
begun_unmixed Group = refl

begin_stays : (section : Option LinePlace) (v : View) → is_mixed v.section ≡ false → is_mixed (begun_view section v).section ≡ false
begin_stays None v old = old
begin_stays (Some k) v old = begun_unmixed k

said_stays : (s : Option Said) (v : View) → IsUnmixed v.section s → is_mixed v.section ≡ false → is_mixed (view_said s v).section ≡ false
said_stays None v says old = absurd says
said_stays (Some s) v says old = line_stays s v says old

-- a line of words, which may begin a section
pub read_unmixed : (r : Result (Unit {0}) FaultKind) (misplaced : Option FaultKind) (section : Option LinePlace) (s : Option Said) (old mid new : View)
    → (misplaced ≡ None → mid ≡ begun_view section old) → OnOk r (misplaced ≡ None) → OnOk r (IsUnmixed mid.section s) → OnOk r (new ≡ view_said s mid)
    → is_mixed old.section ≡ false → OnOk r (is_mixed new.section ≡ false)
read_unmixed (Ok done) misplaced section s old mid new met placed says known before =
    let begun : is_mixed mid.section ≡ false = subst (λ (v : View). is_mixed v.section ≡ false) (sym (met placed)) (begin_stays section old before) in
    subst (λ (v : View). is_mixed v.section ≡ false) (sym known) (said_stays s mid says begun)
read_unmixed (Err fault) misplaced section s old mid new met placed says known before = tt

-- ---- the sections of a text

either : (named : Bool) (ps : List (List ℕ)) → (named && not (is_empty ps)) ≡ false → named ≡ true → ps ≡ []
either named [] is some = refl
either true (p ∷ ps) is some = cc
either false (p ∷ ps) is some = cc

both_not : (named : Bool) (ps : List (List ℕ)) → (named ≡ true → ps ≡ []) → (named && not (is_empty ps)) ≡ false
both_not false ps none = refl
both_not true [] none = refl
both_not true (p ∷ ps) none = let empty : p ∷ ps ≡ [] = none refl in cc

part_unmixed : (a b : List (List ℕ)) (kind : LinePlace) (says : List Said) → is_mixed (part_sketch a b kind says) ≡ false
    → kind ≡ Channel → names_box says ≡ true → flat_map patterns_in says ≡ []
part_unmixed a b Channel says is channel named = either (names_box says) (flat_map patterns_in says) is named
part_unmixed a b Start says is channel named = cc
part_unmixed a b Between says is channel named = cc
part_unmixed a b ImapStore says is channel named = cc
part_unmixed a b MaildirStore says is channel named = cc
part_unmixed a b Group says is channel named = cc

sketch_unmixed : (a b : List (List ℕ)) (kind : LinePlace) (says : List Said)
    → (kind ≡ Channel → names_box says ≡ true → flat_map patterns_in says ≡ []) → is_mixed (part_sketch a b kind says) ≡ false
sketch_unmixed a b Channel says is = both_not (names_box says) (flat_map patterns_in says) (is refl)
sketch_unmixed a b Start says is = refl
sketch_unmixed a b Between says is = refl
sketch_unmixed a b ImapStore says is = refl
sketch_unmixed a b MaildirStore says is = refl
sketch_unmixed a b Group says is = refl

said_ended : (begins : Option LinePlace) (s : Option Said) (p : Parts) → (said_at begins s p).ended ≡ p.ended
said_ended (Some kind) s p = refl
said_ended None s p = by p.current.kind _
  where
    by : (kind : LinePlace) (says : List Said) → (add_at kind says p).ended ≡ p.ended
    by Start says = refl
    by Between says = refl
    by ImapStore says = refl
    by MaildirStore says = refl
    by Channel says = refl
    by Group says = refl

-- what a line of words leaves unmixed of what is shown it leaves so of the sections
pub words_unmixed : (begins : Option LinePlace) (s : Option Said) (p : Parts) (old new : View) → AreUnmixed p → old ≡ view_of p
    → new ≡ view_of (said_at begins s p) → (is_mixed old.section ≡ false → is_mixed new.section ≡ false) → AreUnmixed (said_at begins s p)
words_unmixed begins s p old new are before shows stays =
    let q = said_at begins s p in
    let was : is_mixed old.section ≡ false =
    ap (λ (v : View). is_mixed v.section) before ∙ sketch_unmixed _ _ p.current.kind p.current.says are.1 in
    let is : is_mixed (view_of q).section ≡ false = sym (ap (λ (v : View). is_mixed v.section) shows) ∙ stays was in (
      subst (λ (l : List Part). All IsOneOrMatching l) (sym (said_ended begins s p)) are.0,
      part_unmixed _ _ q.current.kind q.current.says is,
    )

pub ended_unmixed : (p : Parts) (b : Bool) → AreUnmixed p → AreUnmixed (ended_if b p)
ended_unmixed p false are = are
ended_unmixed p true are = (All-push IsOneOrMatching p.ended p.current are.0 are.1, λ channel named. cc)
