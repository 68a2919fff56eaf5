-- What is read of a line, as a run of portions.
use Rattle.std.proofs.Common.{◌≡◌, ℕ, suc, ◌+◌, ◌-◌, ◌<◌, ◌≤◌, ◌⊎◌, Bool, true, false, List, [], ◌∷◌, ◌++◌, length, take, drop, Option, None, Some, Result, Ok, Err, OnErr, refl, sym, ap, subst, ◌∙◌, append_assoc, append-nil, take-append-drop, inl, inr, arith}
use Rattle.std.specs.List.{list_all}
use Rattle.std.proofs.Math.Seq.{take-append_seam, take-append-add, take-add}
use Rattle.std.proofs.lemmas.List.{length-append, take_all, take_at, take-append-le}
use Rattle.std.proofs.lemmas.Bool.{false≢true}
use Rattle.wire_reader.specs.declared.side.Speaker.TheVariants.{Commands}
use Rattle.wire_reader.specs.declared.scanner.Scanner.{Scanner}
use Rattle.wire_reader.specs.Lexical.{outside, asks}
use Rattle.wire_reader.specs.Scanning.{start, scanned, first_place, up_to, NoPlace}
use Rattle.wire_reader.specs.Answers.{Begins, FaultAt, WholeAt, PassesLimit}
use Rattle.wire_reader.specs.Places.{Opens, Drops}
use Rattle.wire_reader.proofs.PlaceLaws.{waits_law}
use Rattle.wire_reader.proofs.Scanned.{scanned-append}
use Rattle.imap_commands.specs.declared.command.Command.{Command}
use Rattle.imap_commands.specs.Commands.{Spelled}
use Rattle.imap_commands.proofs.CommandParts.{command_part}
use Rattle.imap_commands.proofs.CommandFeeds.{command_feed}
use Rattle.imap_replies.specs.declared.reply.Reply.{Reply}
use Rattle.imap_session.specs.Servers.{Server, is_over, reported}
use Rattle.imap_session.specs.Portions.{LineFault, FaultIs, Item, Asks, Ends, Reads, once, goes_in}
use Rattle.imap_session.specs.Unread.{Kept, Whole, Holds}
use Rattle.imap_session.specs.Serving.{is_late, Runs, End, IsUnread, Feeds, FeedsSome}
use Rattle.imap_session.specs.Short.{is_short}
use Rattle.imap_session.proofs.Joins.{feeds-join}
use Rattle.imap_session.proofs.Opening.{nothing_opens}
use Rattle.imap_session.proofs.ShortReplies.{short_append}
use Rattle.imap_server.specs.declared.line.LineBuf.{LineBuf}
use Rattle.imap_server.specs.declared.unread.Unread.{Unread}
use Rattle.imap_server.specs.declared.unread.Unread.TheVariants as kinds
use Rattle.imap_server.specs.Unreads.{Waits, IsSound, IsNothing, kept_of, end_of}
use Rattle.imap_server.specs.Taking.{Reports, Took, TookSome, ToPlace, ReadLine, AnswersPlace}
use Rattle.imap_server.specs.Writing.{Wrote}
use Rattle.imap_server.proofs.UpToPlaces.{found_place, no_place-take, no_place-append, goes_same, goes_last}
use Rattle.imap_server.proofs.Decided.{state, fault_not_begun, one_fault, fault_place, whole_all, whole_is_all, limit_last}
use Rattle.imap_server.proofs.FaultyLines.{fault_there, sort}
use Rattle.imap_server.proofs.WritingLemmas.{wrote_none, wrote_then}
use Rattle.imap_server.proofs.Feeding.{no_portion, one_portion, feeds_none, feeds_some, feeds_late}

-- whether the connection is over is known
holds_if : (over : Bool) (kept : Kept) (text : List ℕ) (reported : List Reply) → over ≡ false → Holds false kept text reported → Holds over kept text reported
holds_if over kept text reported e h = subst (λ (b : Bool). Holds b kept text reported) (sym e) h

held_if : (over : Bool) (kept : Kept) (text : List ℕ) (reported : List Reply) → over ≡ false → Holds over kept text reported → Holds false kept text reported
held_if over kept text reported e h = subst (λ (b : Bool). Holds b kept text reported) e h

-- ---- what was said so far

module _ (front since : List ℕ) (opens : Opens Spelled front) (none : NoPlace front since) where
  abbrev line : List ℕ
  line = front ++ since

  -- up to a fault as much as up to the last place
  pub goes_to : (at : ℕ) → length front ≤ at → goes_in (take at line) ≡ goes_in front
  goes_to at following =
      let parts : take at line ≡ front ++ take (at - length front) since = ap (λ (n : ℕ). take n line) (let e : at ≡ length front + (at - length front) = omega (arith, following) in e) ∙ take-append-add front since (at - length front) in
      ap goes_in parts ∙ goes_same front (take (at - length front) since) (no_place-take (at - length front) front since none)

  pub record Reported (text : List ℕ) (reported : List Reply) : Type 0 where
    pub text_is : text ≡ line
    pub reported_is : reported ≡ goes_in front

  pub reported_so : (text : List ℕ) (reported : List Reply) → Holds false (Whole line) text reported → Reported text reported
  reported_so text reported (same, inl o) = record { text_is = sym same; reported_is = o.said_is ∙ ap goes_in (sym same) ∙ goes_same front since none }
  reported_so text reported (same, inr f) =
      let at = f.at in
      let fault : FaultAt Spelled line at = subst (λ (l : List ℕ). FaultAt Spelled l at) (sym same) (fault_there f.fault at text f.goes_on.is) in
      record {
        text_is = sym same;
        reported_is = f.goes_on.said_is ∙ ap (λ (l : List ℕ). goes_in (take at l)) (sym same) ∙ goes_to at (following at fault (state front since opens none));
      }
    where
      following : (at : ℕ) → FaultAt Spelled line at → Opens Spelled line ⊎ Drops Spelled front line → length front ≤ at
      following at fault (inl o) = let w = fault.within in absurd (fault_not_begun line at (length line) fault w (subst (Begins Spelled) (sym (take_all (length line) line (omega arith))) o.begins))
      following at fault (inr d) = let same = one_fault line d.at at d.fault fault in let b = d.following in omega (arith, same, b)

  -- as long as no place comes, more is waited for, or a fault was met
  pub still_held : Holds false (Whole line) line (goes_in front)
  still_held = by_state (state front since opens none)
    where
      by_state : Opens Spelled line ⊎ Drops Spelled front line → Holds false (Whole line) line (goes_in front)
      by_state (inl o) = (refl, inl (record { begins = o.begins; fits = o.fits; said_is = sym (goes_same front since none) }))
      by_state (inr d) =
          let s = sort d.at line d.fault d.fits in
          (refl, inr (record { fault = s.fault; at = d.at; goes_on = record { is = s.is; no_end = d.no_end; said_is = sym (goes_to d.at d.following) } }))

-- no place among the bytes that come
pub feeds_more : (s : Server) (front since more : List ℕ) → is_over s.condition ≡ false → Opens Spelled front → NoPlace front since → NoPlace (front ++ since) more
    → Feeds (record { server = s; kept = Whole (front ++ since) }) more [] (record { server = s; kept = Whole ((front ++ since) ++ more) })
feeds_more s front since more in_time opens none later = record {
  from = λ text reported is.
      let t = reported_so front since opens none text reported (held_if (is_over s.condition) (Whole (front ++ since)) text reported in_time is) in
      let held : Holds false (Whole (front ++ (since ++ more))) (front ++ (since ++ more)) (goes_in front) = still_held front (since ++ more) opens (no_place-append front since more none later) in
      let same : front ++ (since ++ more) ≡ text ++ more = sym (append_assoc front since more) ∙ ap (λ (l : List ℕ). l ++ more) (sym t.text_is) in
      record {
        replies = [];
        rest = text ++ more;
        rest_said = reported;
        runs = no_portion s (text ++ more);
        unread_then = holds_if (is_over s.condition) (Whole ((front ++ since) ++ more)) (text ++ more) reported in_time
            (subst (λ (l : List ℕ). Holds false (Whole ((front ++ since) ++ more)) l reported) same
            (subst (λ (rs : List Reply). Holds false (Whole ((front ++ since) ++ more)) (front ++ (since ++ more)) rs) (sym t.reported_is)
            (subst (λ (l : List ℕ). Holds false (Whole l) (front ++ (since ++ more)) (goes_in front)) (sym (append_assoc front since more)) held)));
        are = append-nil reported;
      };
}

-- up to a place
pub feeds_place : (s new : Server) (front since piece before out : List ℕ) (after : Unread) → is_over s.condition ≡ false → Opens Spelled front → NoPlace front since
    → (r : ReadLine s ((front ++ since) ++ piece) (goes_in front) before out new after)
    → Feeds (record { server = s; kept = Whole (front ++ since) }) piece r.said (end_of new after)
feeds_place s new front since piece before out after in_time opens none r = record {
  from = λ text reported is.
      let t = reported_so front since opens none text reported (held_if (is_over s.condition) (Whole (front ++ since)) text reported in_time is) in
      record {
        replies = r.replies;
        rest = r.rest;
        rest_said = r.rest_said;
        runs = subst (λ (l : List ℕ). Runs s (l ++ piece) r.replies r.rest new) (sym t.text_is) r.runs;
        unread_then = r.unread_then;
        are = ap (λ (l : List Reply). l ++ r.said) t.reported_is ∙ r.are;
      };
}

-- ---- what stands in a line up to a place

-- nothing is unread
pub unread_none : (s : Server) (unread : Unread) → IsNothing unread → IsSound s unread × IsUnread (end_of s unread) [] []
unread_none s (kinds.Line kept) h = (
  record {
    scanned = record { front = []; since = []; parts = h.0; opens = (waits_law command_part command_feed).begin; no_place = refl; scanned_is = h.1 ∙ ap (scanned start) (sym h.0) };
    over = λ _. ap Whole h.0;
  },
  subst (λ (l : List ℕ). Holds (is_over s.condition) (Whole l) [] []) (sym h.0) (empty (is_over s.condition)),
)
  where
    empty : (over : Bool) → Holds over (Whole []) [] []
    empty true = (refl, refl, refl)
    empty false = (refl, inl nothing_opens)
unread_none s (kinds.Dropped _) h = absurd h

module _ (old : Server) (text : List ℕ) (line : ToPlace text) where
  abbrev begun : List ℕ
  begun = line.front ++ line.since

  -- one portion was answered
  pub read_portion : (item : Item) (own : List Reply) (new : Server) (before out : List ℕ) (after : Unread) → list_all is_short own ≡ true → is_over old.condition ≡ false → Reads item text (goes_in line.front) → is_late item ≡ false
      → Reports old item own new → Wrote own before out → IsNothing after → ReadLine old text (goes_in line.front) before out new after
  read_portion item own new before out after short in_time reads late states wrote nothing =
      let n = unread_none new after nothing in
      record {
        said = own;
        wrote = wrote;
        short = short;
        sound = n.0;
        replies = goes_in line.front ++ own;
        rest = [];
        rest_said = [];
        runs = one_portion old new item text (goes_in line.front) own reads (late ∙ sym in_time) states;
        unread_then = n.1;
        are = sym (append-nil (goes_in line.front ++ own));
      }

  goes_there : goes_in text ≡ goes_in line.front ++ once (asks Commands text)
  goes_there =
      ap goes_in line.parts ∙ goes_last begun line.byte
      ∙ ap (λ (l : List Reply). l ++ once (asks Commands (begun ++ line.byte ∷ []))) (goes_same line.front line.since line.no_place)
      ∙ ap (λ (l : List ℕ). goes_in line.front ++ once (asks Commands l)) (sym line.parts)

  -- a command
  pub command_reads : (c : Command) (used : ℕ) → WholeAt Spelled text c used → outside (take used text) ≤ 65536 → Reads (Asks c) text (goes_in line.front)
  command_reads c used w fits =
      let whole : Spelled c text = subst (Spelled c) (sym line.parts) (whole_is_all line.front line.since line.opens line.no_place line.byte c used (subst (λ (l : List ℕ). WholeAt Spelled l c used) line.parts w)) in
      let all : used ≡ length text = whole_all line.front line.since line.opens line.no_place line.byte c used (subst (λ (l : List ℕ). WholeAt Spelled l c used) line.parts w) ∙ ap length (sym line.parts) in
      let quiet : asks Commands text ≡ None = (command_part.leads refl).quiet c text whole refl in
      record {
        spelled = whole;
        fits = omega (arith, fits, ap outside (ap (λ (n : ℕ). take n text) all ∙ take_all (length text) text (omega arith)));
        said_is = sym (goes_there ∙ ap (λ (o : Option ℕ). goes_in line.front ++ once o) quiet ∙ append-nil (goes_in line.front));
      }

  once_short : (w : Option ℕ) → list_all is_short (once w) ≡ true
  once_short None = refl
  once_short (Some n) = refl

  -- more is waited for
  pub read_begin : (w : Option ℕ) (before out : List ℕ) (after : Unread) → is_over old.condition ≡ false → Begins Spelled text → outside text ≤ 65536 → asks Commands text ≡ w → Wrote (once w) before out
      → kept_of after ≡ Whole text → IsSound old after → ReadLine old text (goes_in line.front) before out old after
  read_begin w before out after in_time begins fits asked wrote kept sound = record {
    said = once w;
    wrote = wrote;
    short = once_short w;
    sound = sound;
    replies = [];
    rest = text;
    rest_said = goes_in text;
    runs = no_portion old text;
    unread_then = subst (λ (k : Kept). Holds (is_over old.condition) k text (goes_in text)) (sym kept) (holds_if (is_over old.condition) (Whole text) text (goes_in text) in_time (refl, inl (record { begins = begins; fits = fits; said_is = refl })));
    are = sym (goes_there ∙ ap (λ (o : Option ℕ). goes_in line.front ++ once o) asked);
  }

  -- too many bytes
  pub limit_reads : PassesLimit Commands Spelled text → Reads Ends text (goes_in line.front)
  limit_reads p =
      let last : suc p.at ≡ length text = limit_last line.front line.since line.opens line.no_place line.byte (subst (PassesLimit Commands Spelled) line.parts p) ∙ ap length (sym line.parts) in
      inr (record {
        passes = p;
        last = ap (λ (n : ℕ). take n text) last ∙ take_all (length text) text (omega arith);
        said_is = sym (ap goes_in (to_last p.at last) ∙ goes_same line.front line.since line.no_place);
      })
    where
      to_last : (at : ℕ) → suc at ≡ length text → take at text ≡ begun
      to_last at last =
          let count : at ≡ length begun = omega (arith, last, ap length line.parts, length-append begun (line.byte ∷ [])) in
          ap (λ (n : ℕ). take n text) count ∙ ap (take (length begun)) line.parts ∙ take-append_seam begun (line.byte ∷ [])

  -- so much was said of a line with a fault
  pub reported_to_fault : (fault : LineFault) (at : ℕ) → FaultIs fault at text → goes_in line.front ≡ goes_in (take at text)
  reported_to_fault fault at is =
      let f = fault_place line.front line.since line.opens line.no_place line.byte at (subst (λ (l : List ℕ). FaultAt Spelled l at) line.parts (fault_there fault at text is)) in
      sym (ap (λ (l : List ℕ). goes_in (take at l)) line.parts ∙ ap goes_in (take-append-le at begun (line.byte ∷ []) f.within) ∙ goes_to line.front line.since line.opens line.no_place at f.following)

-- ---- what the reader answers

pub begun_sound : (s : Server) (line : LineBuf) → is_over s.condition ≡ false → line.scanner ≡ scanned start line.bytes.items → Begins Spelled line.bytes.items → outside line.bytes.items ≤ 65536 → IsSound s (kinds.Line line)
begun_sound s line in_time scan begins fits = record {
  scanned = record { front = line.bytes.items; since = []; parts = sym (append-nil line.bytes.items); opens = record { begins = begins; fits = fits }; no_place = refl; scanned_is = scan };
  over = λ over. absurd (false≢true (sym in_time ∙ over));
}

-- ---- bytes after the begin of a line

pub scanned_on : (line new : LineBuf) (bytes : List ℕ) → Waits line.bytes.items line.scanner → new.bytes.items ≡ line.bytes.items ++ bytes → new.scanner ≡ scanned line.scanner bytes → new.scanner ≡ scanned start new.bytes.items
scanned_on line new bytes w taken scan =
    scan ∙ ap (λ (t : Scanner). scanned t bytes) w.scanned_is ∙ sym (scanned-append start line.bytes.items bytes) ∙ ap (scanned start) (sym taken)

pub waits_more : (s : Server) (line new : LineBuf) (bytes out : List ℕ) (found : Option ℕ) → is_over s.condition ≡ false → (w : Waits line.bytes.items line.scanner) → 0 < length bytes → found ≡ None → found ≡ first_place line.scanner bytes
    → new.bytes.items ≡ line.bytes.items ++ up_to found bytes → new.scanner ≡ scanned line.scanner (up_to found bytes) → TookSome (end_of s (kinds.Line line)) bytes out out s (kinds.Line new) (length bytes)
waits_more s line new bytes out found in_time w some is_none found_is taken_to scan_up =
    let place : first_place line.scanner bytes ≡ None = sym found_is ∙ is_none in
    let taken : new.bytes.items ≡ line.bytes.items ++ bytes = taken_to ∙ ap (λ (o : Option ℕ). line.bytes.items ++ up_to o bytes) is_none in
    let scan : new.scanner ≡ scanned line.scanner bytes = scan_up ∙ ap (λ (o : Option ℕ). scanned line.scanner (up_to o bytes)) is_none in
    let none : NoPlace (w.front ++ w.since) bytes = ap (λ (l : List ℕ). first_place (scanned start l) bytes) (sym w.parts) ∙ ap (λ (t : Scanner). first_place t bytes) (sym w.scanned_is) ∙ place in
    let all : take (length bytes) bytes ≡ bytes = take_all (length bytes) bytes (omega arith) in
    let fed = feeds_more s w.front w.since bytes in_time w.opens w.no_place none in
    record {
      some = some;
      within = omega arith;
      took = record {
        said = [];
        feeds = subst (λ (l : List ℕ). Feeds (end_of s (kinds.Line line)) l [] (end_of s (kinds.Line new))) (sym all)
            (subst (λ (l : List ℕ). Feeds (end_of s (kinds.Line line)) bytes [] (record { server = s; kept = Whole l })) (ap (λ (l : List ℕ). l ++ bytes) (sym w.parts) ∙ sym taken)
            (subst (λ (l : List ℕ). Feeds (record { server = s; kept = Whole l }) bytes [] (record { server = s; kept = Whole ((w.front ++ w.since) ++ bytes) })) (sym w.parts) fed));
        wrote = wrote_none out;
        short = refl;
        sound = record {
          scanned = record {
            front = w.front;
            since = w.since ++ bytes;
            parts = taken ∙ ap (λ (l : List ℕ). l ++ bytes) w.parts ∙ append_assoc w.front w.since bytes;
            opens = w.opens;
            no_place = no_place-append w.front w.since bytes w.no_place none;
            scanned_is = scanned_on line new bytes w taken scan;
          };
          over = λ over. absurd (false≢true (sym in_time ∙ over));
        };
      };
    }

pub placed : (s new : Server) (line : LineBuf) (text bytes before out : List ℕ) (count : ℕ) (after : Unread) (found_at : Option ℕ) → is_over s.condition ≡ false → (w : Waits line.bytes.items line.scanner) → found_at ≡ Some count
    → found_at ≡ first_place line.scanner bytes → text ≡ line.bytes.items ++ up_to found_at bytes → AnswersPlace s text before out new after → TookSome (end_of s (kinds.Line line)) bytes before out new after count
placed s new line text bytes before out count after found_at in_time w is_some found_is text_up answers =
    let found : Some count ≡ first_place line.scanner bytes = sym is_some ∙ found_is in
    let text_is : text ≡ line.bytes.items ++ take count bytes = text_up ∙ ap (λ (o : Option ℕ). line.bytes.items ++ up_to o bytes) is_some in
    let f = found_place bytes 0 line.scanner count (sym found) in
    let is = f.end_is in
    let front : take count bytes ≡ f.front ++ f.byte ∷ [] =
    ap (take count) (f.parts ∙ sym (append_assoc f.front (f.byte ∷ []) f.back)) ∙ take_at (f.front ++ f.byte ∷ []) f.back count (omega (arith, is, length-append f.front (f.byte ∷ []))) in
    let none : NoPlace (w.front ++ w.since) f.front = ap (λ (l : List ℕ). first_place (scanned start l) f.front) (sym w.parts) ∙ ap (λ (t : Scanner). first_place t f.front) (sym w.scanned_is) ∙ f.none in
    let piece : text ≡ (w.front ++ w.since) ++ take count bytes = text_is ∙ ap (λ (l : List ℕ). l ++ take count bytes) w.parts in
    let line_is : ToPlace text = record {
      front = w.front;
      since = w.since ++ f.front;
      byte = f.byte;
      parts = piece ∙ ap (λ (l : List ℕ). (w.front ++ w.since) ++ l) front ∙ sym (append_assoc (w.front ++ w.since) f.front (f.byte ∷ [])) ∙ ap (λ (l : List ℕ). l ++ f.byte ∷ []) (append_assoc w.front w.since f.front);
      opens = w.opens;
      no_place = no_place-append w.front w.since f.front w.no_place none;
    } in
    let r = answers in_time line_is in
    let there : ReadLine s ((w.front ++ w.since) ++ take count bytes) (goes_in w.front) before out new after = subst (λ (l : List ℕ). ReadLine s l (goes_in w.front) before out new after) piece r in
    record {
      some = omega (arith, is);
      within = omega (arith, is, ap length f.parts, length-append f.front (f.byte ∷ f.back));
      took = record {
        said = there.said;
        feeds = subst (λ (l : List ℕ). Feeds (record { server = s; kept = Whole l }) (take count bytes) there.said (end_of new after)) (sym w.parts)
            (feeds_place s new w.front w.since (take count bytes) before out after in_time w.opens w.no_place there);
        wrote = there.wrote;
        short = there.short;
        sound = there.sound;
      };
    }

pub late_took : (s : Server) (unread : Unread) (bytes out : List ℕ) → 0 < length bytes → IsSound s unread → is_over s.condition ≡ true → TookSome (end_of s unread) bytes out out (reported s) unread (length bytes)
late_took s unread bytes out some sound over = record {
  some = some;
  within = omega arith;
  took = record {
    said = [];
    feeds = subst (λ (l : List ℕ). Feeds (end_of s unread) l [] (end_of (reported s) unread)) (sym (take_all (length bytes) bytes (omega arith))) (feeds_late (end_of s unread) bytes over (sound.over over) some);
    wrote = wrote_none out;
    short = refl;
    sound = record { scanned = sound.scanned; over = sound.over };
  };
}

-- ---- piece after piece

pub took_none : (s : Server) (unread : Unread) (bytes out : List ℕ) → IsSound s unread → Took (end_of s unread) (take 0 bytes) out out s unread
took_none s unread bytes out sound = record { said = []; feeds = feeds_none (end_of s unread); wrote = wrote_none out; short = refl; sound = sound }

pub took_more : (old : End) (mid new : Server) (first after : Unread) (bytes before between out : List ℕ) (done count next : ℕ) → Took old (take done bytes) before between mid first
    → TookSome (end_of mid first) (drop done bytes) between out new after count → next ≡ done + count → Took old (take next bytes) before out new after
took_more old mid new first after bytes before between out done count next t u is = record {
  said = t.said ++ u.took.said;
  feeds = subst (λ (l : List ℕ). Feeds old l (t.said ++ u.took.said) (end_of new after)) (sym (ap (λ (n : ℕ). take n bytes) is ∙ take-add done count bytes))
      (feeds-join old (end_of mid first) (end_of new after) (take done bytes) (take count (drop done bytes)) t.said u.took.said t.feeds u.took.feeds);
  wrote = wrote_then t.said u.took.said before between out t.wrote u.took.wrote;
  short = short_append t.said u.took.said t.short u.took.short;
  sound = u.took.sound;
}

-- memory ran out after some of them
pub took_part : (old : End) (mid : Server) (first : Unread) (bytes before between : List ℕ) (done : ℕ) → Took old (take done bytes) before between mid first → FeedsSome old bytes mid
took_part old mid first bytes before between done t =
    subst (λ (l : List ℕ). FeedsSome old l mid) (take-append-drop done bytes) (feeds_some old (end_of mid first) (take done bytes) (drop done bytes) t.said t.feeds)

pub on_err_given : {T E P : Type 0} (r : Result T E) → P → OnErr r P
on_err_given (Ok x) p = tt
on_err_given (Err e) p = p
