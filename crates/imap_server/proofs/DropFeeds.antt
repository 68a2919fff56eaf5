-- What is read of a line with a fault, as a run of portions.
use Rattle.std.proofs.Common.{◌≡◌, ℕ, ◌<◌, ◌≤◌, Bool, true, false, List, [], ◌∷◌, ◌++◌, length, take, drop, Option, None, Some, refl, sym, ap, subst, ◌∙◌, append_assoc, append-nil, take-append-drop, if◌then◌else◌, inl, inr, arith}
use Rattle.std.specs.List.{list_all}
use Rattle.std.proofs.lemmas.Bool.{cases_lt, false≢true, and_from}
use Rattle.std.proofs.lemmas.List.{length-append, take_all, take-append-le, drop-append-le}
use Rattle.wire_reader.specs.Spelling.{crlf}
use Rattle.wire_reader.specs.Answers.{FaultAt}
use Rattle.imap_commands.specs.Commands.{Spelled}
use Rattle.imap_replies.specs.declared.reply.Reply.{Reply}
use Rattle.imap_session.specs.Servers.{Server, is_over, news, reported}
use Rattle.imap_session.specs.Portions.{LineFault, FaultIs, goes_in}
use Rattle.imap_session.specs.Unread.{Kept, Dropping, Drops, Holds, last_three}
use Rattle.imap_session.specs.Serving.{ends, fault_reply, FeedsFrom, Feeds}
use Rattle.imap_server.specs.declared.dropped.Dropped.{Dropped as Line}
use Rattle.imap_server.specs.declared.unread.Unread.{Unread}
use Rattle.imap_server.specs.declared.unread.Unread.TheVariants as kinds
use Rattle.imap_session.specs.Answering.{only}
use Rattle.imap_session.specs.Short.{is_short}
use Rattle.imap_session.proofs.ShortReplies.{short_append, news_short, fault_short}
use Rattle.imap_server.specs.Dropping.{EndsAt, Passes, loses_octets}
use Rattle.imap_server.specs.Unreads.{IsSound, IsNothing, fault_of, kept_of, end_of}
use Rattle.imap_server.specs.Taking.{reporting, TookSome, ToPlace, ReadLine, dropped_answer}
use Rattle.imap_server.specs.Writing.{Answered}
use Rattle.imap_server.proofs.WritingLemmas.{wrote_none}
use Rattle.imap_server.proofs.Decided.{fault_place}
use Rattle.imap_server.proofs.LastBytes.{ends_with, no_bytes}
use Rattle.imap_server.proofs.FaultyLines.{fault_there, fault_stays, dropped}
use Rattle.imap_server.proofs.Feeding.{no_portion, one_portion}
use Rattle.imap_server.proofs.LineFeeds.{unread_none, read_portion, reported_to_fault}

dropped_short : (s : Server) (fault : LineFault) (last : List ℕ) → list_all is_short (reporting (dropped_answer fault last) s).replies ≡ true
dropped_short s fault last = short_append (news s) (dropped_answer fault last (reported s)).replies (news_short s) (elim (loses_octets fault last) as (λ b. list_all is_short (if b then ends (reported s) else only (reported s) (fault_reply fault)).replies ≡ true) [ true ↦ refl | false ↦ and_from _ _ (fault_short fault) refl ])

-- ---- from the fault on, up to the place

module _ (old : Server) (text : List ℕ) (line : ToPlace text) (fault : LineFault) (at : ℕ) (is : FaultIs fault at text) where
  -- a line end is where the place is
  all_passed : (count : ℕ) (last : List ℕ) (e : EndsAt [] (drop at text) count last) → drop at text ≡ e.front ++ 10 ∷ []
  all_passed count last e =
      let f = fault_place line.front line.since line.opens line.no_place line.byte at (subst (λ (l : List ℕ). FaultAt Spelled l at) line.parts (fault_there fault at text is)) in
      let rest : drop at text ≡ f.front ++ line.byte ∷ [] = ap (drop at) line.parts ∙ f.front_is in
      let w = ends_with e.front e.x e.y 12 (sym e.tail.last_is ∙ e.return) in
      let part : take count (drop at text) ≡ w.front ++ crlf = e.parts ∙ ap (λ (l : List ℕ). l ++ 10 ∷ []) w.parts ∙ append_assoc w.front (13 ∷ []) (10 ∷ []) in
      elim (cases_lt (length f.front) count) [
        | inl lt ↦
            let within = e.within in
            let all : count ≡ length (drop at text) = omega (arith, lt, within, ap length rest, length-append f.front (line.byte ∷ [])) in
            sym (ap (λ (n : ℕ). take n (drop at text)) all ∙ take_all (length (drop at text)) (drop at text) (omega arith)) ∙ e.parts
        | inr le ↦
            let inside : take count f.front ≡ w.front ++ crlf = sym (ap (take count) rest ∙ take-append-le count f.front (line.byte ∷ []) le) ∙ part in
            absurd (f.no_end w.front (drop count f.front) (sym (take-append-drop count f.front) ∙ ap (λ (l : List ℕ). l ++ drop count f.front) inside ∙ append_assoc w.front crlf (drop count f.front)))
      ]

  -- it goes on
  pub drops_on : (last out : List ℕ) (after : Unread) → is_over old.condition ≡ false → Passes (0 ∷ 0 ∷ 0 ∷ []) (drop at text) None last → kept_of after ≡ Dropping fault last → IsSound old after
      → ReadLine old text (goes_in line.front) out out old after
  drops_on last out after in_time passes kept sound =
      let tail = passes [] no_bytes in
      let held : Holds false (Dropping fault last) text (goes_in line.front) =
      record { at = at; goes_on = record { is = is; no_end = tail.no_end; said_is = reported_to_fault old text line fault at is }; last_is = tail.last_is } in
      record {
        said = [];
        wrote = wrote_none out;
        short = refl;
        sound = sound;
        replies = [];
        rest = text;
        rest_said = goes_in line.front;
        runs = no_portion old text;
        unread_then = subst (λ (k : Kept). Holds (is_over old.condition) k text (goes_in line.front)) (sym kept)
            (subst (λ (b : Bool). Holds b (Dropping fault last) text (goes_in line.front)) (sym in_time) held);
        are = append-nil (goes_in line.front);
      }

  -- it ends
  pub drops_all : (count : ℕ) (last before out : List ℕ) (new : Server) (after : Unread) → is_over old.condition ≡ false → Passes (0 ∷ 0 ∷ 0 ∷ []) (drop at text) (Some count) last → IsNothing after
      → Answered (reporting (dropped_answer fault last) old) before out new → ReadLine old text (goes_in line.front) before out new after
  drops_all count last before out new after in_time passes nothing answered =
      let e = passes [] no_bytes in
      let d = dropped fault at text e.front last e.x e.y is (all_passed count last e) e.tail e.return (goes_in line.front) (reported old) (reported_to_fault old text line fault at is) in
      read_portion old text line d.item (reporting (dropped_answer fault last) old).replies new before out after (dropped_short old fault last) in_time d.reads d.in_time
      (record { own = (dropped_answer fault last (reported old)).replies; does = d.does new answered.after_is; replies_are = refl }) answered.wrote nothing

-- ---- further bytes of it

pub feeds_dropped : (s : Server) (fault : LineFault) (last bytes new : List ℕ) → is_over s.condition ≡ false → Passes last bytes None new
    → Feeds (record { server = s; kept = Dropping fault last }) bytes [] (record { server = s; kept = Dropping fault new })
feeds_dropped s fault last bytes new in_time passes = record { from = λ text reported is. further text reported (subst (λ (b : Bool). Holds b (Dropping fault last) text reported) in_time is) }
  where
    further : (text : List ℕ) (reported : List Reply) → Drops fault last text reported → FeedsFrom (record { server = s; kept = Dropping fault last }) text reported bytes [] (record { server = s; kept = Dropping fault new })
    further text reported d =
        let at = d.at in
        let w = (fault_there fault at text d.goes_on.is).within in
        let tail = passes (drop at text) (record { no_end = d.goes_on.no_end; last_is = d.last_is }) in
        let rest : drop at text ++ bytes ≡ drop at (text ++ bytes) = sym (drop-append-le at text bytes (omega (arith, w))) in
        let held : Drops fault new (text ++ bytes) reported = record {
          at = at;
          goes_on = record {
            is = fault_stays fault at text bytes d.goes_on.is;
            no_end = λ a b e. tail.no_end a b (rest ∙ e);
            said_is = d.goes_on.said_is ∙ ap goes_in (sym (take-append-le at text bytes (omega (arith, w))));
          };
          last_is = tail.last_is ∙ ap last_three rest;
        } in
        record {
          replies = [];
          rest = text ++ bytes;
          rest_said = reported;
          runs = no_portion s (text ++ bytes);
          unread_then = subst (λ (b : Bool). Holds b (Dropping fault new) (text ++ bytes) reported) (sym in_time) held;
          are = append-nil reported;
        }

pub feeds_dropped_end : (s new : Server) (fault : LineFault) (old last bytes before out : List ℕ) (count : ℕ) (after : Unread) → is_over s.condition ≡ false → Passes old bytes (Some count) last → IsNothing after
    → Answered (reporting (dropped_answer fault last) s) before out new → Feeds (record { server = s; kept = Dropping fault old }) (take count bytes) (reporting (dropped_answer fault last) s).replies (end_of new after)
feeds_dropped_end s new fault old last bytes before out count after in_time passes nothing answered = record { from = λ text so_far is. further text so_far (subst (λ (b : Bool). Holds b (Dropping fault old) text so_far) in_time is) }
  where
    further : (text : List ℕ) (so_far : List Reply) → Drops fault old text so_far
        → FeedsFrom (record { server = s; kept = Dropping fault old }) text so_far (take count bytes) (reporting (dropped_answer fault last) s).replies (end_of new after)
    further text so_far d =
        let at = d.at in
        let more = take count bytes in
        let w = (fault_there fault at text d.goes_on.is).within in
        let e = passes (drop at text) (record { no_end = d.goes_on.no_end; last_is = d.last_is }) in
        let rest : drop at (text ++ more) ≡ (drop at text ++ e.front) ++ 10 ∷ [] =
        drop-append-le at text more (omega (arith, w)) ∙ ap (λ (l : List ℕ). drop at text ++ l) e.parts ∙ sym (append_assoc (drop at text) e.front (10 ∷ [])) in
        let reported_is : so_far ≡ goes_in (take at (text ++ more)) = d.goes_on.said_is ∙ ap goes_in (sym (take-append-le at text more (omega (arith, w)))) in
        let p = dropped fault at (text ++ more) (drop at text ++ e.front) last e.x e.y (fault_stays fault at text more d.goes_on.is) rest e.tail e.return so_far (reported s) reported_is in
        record {
          replies = so_far ++ (reporting (dropped_answer fault last) s).replies;
          rest = [];
          rest_said = [];
          runs = one_portion s new p.item (text ++ more) so_far (reporting (dropped_answer fault last) s).replies p.reads (p.in_time ∙ sym in_time)
              (record { own = (dropped_answer fault last (reported s)).replies; does = p.does new answered.after_is; replies_are = refl });
          unread_then = (unread_none new after nothing).1;
          are = sym (append-nil (so_far ++ (reporting (dropped_answer fault last) s).replies));
        }

pub passes_from : (old rest text : List ℕ) (found : Option ℕ) (new : List ℕ) → old ≡ 0 ∷ 0 ∷ 0 ∷ [] → rest ≡ text → Passes old rest found new → Passes (0 ∷ 0 ∷ 0 ∷ []) text found new
passes_from old rest text found new e f p =
    subst (λ (l : List ℕ). Passes (0 ∷ 0 ∷ 0 ∷ []) l found new) f (subst (λ (l : List ℕ). Passes l rest found new) e p)

pub dropped_sound : (s : Server) (line : Line) → is_over s.condition ≡ false → IsSound s (kinds.Dropped line)
dropped_sound s line in_time = record { scanned = tt; over = λ over. absurd (false≢true (sym in_time ∙ over)) }

pub passed_on : (s : Server) (line new : Line) (bytes out : List ℕ) → 0 < length bytes → is_over s.condition ≡ false → Passes line.last bytes None new.last → new.fault ≡ line.fault
    → TookSome (end_of s (kinds.Dropped line)) bytes out out s (kinds.Dropped new) (length bytes)
passed_on s line new bytes out some in_time passes same =
    let all : take (length bytes) bytes ≡ bytes = take_all (length bytes) bytes (omega arith) in
    record {
      some = some;
      within = omega arith;
      took = record {
        said = [];
        feeds = subst (λ (l : List ℕ). Feeds (end_of s (kinds.Dropped line)) l [] (end_of s (kinds.Dropped new))) (sym all)
            (subst (λ (f : LineFault). Feeds (end_of s (kinds.Dropped line)) bytes [] (record { server = s; kept = Dropping f new.last })) (sym (ap fault_of same))
            (feeds_dropped s (fault_of line.fault) line.last bytes new.last in_time passes));
        wrote = wrote_none out;
        short = refl;
        sound = dropped_sound s new in_time;
      };
    }

pub passed_some : (s new : Server) (line passed : Line) (bytes before out : List ℕ) (count : ℕ) (after : Unread) → is_over s.condition ≡ false → (0 < count) × (count ≤ length bytes) → Passes line.last bytes (Some count) passed.last → passed.fault ≡ line.fault
    → IsNothing after → Answered (reporting (dropped_answer (fault_of passed.fault) passed.last) s) before out new → TookSome (end_of s (kinds.Dropped line)) bytes before out new after count
passed_some s new line passed bytes before out count after in_time counted passes same nothing answered =
    let of_line : Answered (reporting (dropped_answer (fault_of line.fault) passed.last) s) before out new =
    subst (λ (f : LineFault). Answered (reporting (dropped_answer f passed.last) s) before out new) (ap fault_of same) answered in
    record {
      some = counted.0;
      within = counted.1;
      took = record {
        said = (reporting (dropped_answer (fault_of line.fault) passed.last) s).replies;
        feeds = feeds_dropped_end s new (fault_of line.fault) line.last passed.last bytes before out count after in_time passes nothing of_line;
        wrote = of_line.wrote;
        short = dropped_short s (fault_of line.fault) passed.last;
        sound = (unread_none new after nothing).0;
      };
    }
