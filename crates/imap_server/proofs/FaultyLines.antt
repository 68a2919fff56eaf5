-- Lines with a fault: what the fault is, and how they end.
use Rattle.std.proofs.Common.{◌≡◌, ℕ, zero, suc, ◌<◌, ◌≤◌, Bool, false, List, [], ◌∷◌, ◌++◌, length, take, drop, Some, refl, sym, ap, subst, ◌∙◌, append_assoc, if◌then◌else◌, inl, inr, arith}
use Rattle.std.proofs.lemmas.Bool.{cases_Bool}
use Rattle.std.proofs.lemmas.List.{take-append-le}
use Rattle.wire_reader.specs.declared.side.Speaker.TheVariants.{Commands}
use Rattle.wire_reader.specs.declared.lexical.Phase.{Phase}
use Rattle.wire_reader.specs.declared.lexical.Phase.TheVariants.{Plain}
use Rattle.wire_reader.specs.Lexical.{next, outside, over_from, passes_limit}
use Rattle.wire_reader.specs.Answers.{FaultAt}
use Rattle.imap_commands.specs.Commands.{Spelled}
use Rattle.imap_replies.specs.declared.reply.Reply.{Reply}
use Rattle.imap_session.specs.Servers.{Server}
use Rattle.imap_session.specs.Answering.{Answer, only}
use Rattle.imap_session.specs.Portions.{LineFault, Syntax, LiteralTooLong, FaultIs, TagIs, Item, Faulty, Ends, EndsLine, IsFaultyLine, OctetsFollow, Reads, goes_in}
use Rattle.imap_session.specs.Serving.{Does, is_late, fault_reply, ends as closing}
use Rattle.imap_server.specs.Dropping.{Tail, loses_octets}
use Rattle.imap_server.specs.Taking.{dropped_answer}
use Rattle.imap_server.proofs.UpToPlaces.{outside-take}
use Rattle.imap_server.proofs.Decided.{fault_more}
use Rattle.imap_server.proofs.TagLemmas.{sorted, tag_before_literal}
use Rattle.imap_server.proofs.LastBytes.{Before, Last, crlf_in, ends_with, octets_follow, no_octets_follow}

pub fault_there : (fault : LineFault) (at : ℕ) (text : List ℕ) → FaultIs fault at text → FaultAt Spelled text at
fault_there (Syntax tag) at text h = h.0.fault
fault_there (LiteralTooLong tag) at text h = h.0.fault

-- ---- which fault it is

pub record Sort (at : ℕ) (text : List ℕ) : Type 0 where
  pub fault : LineFault
  pub is : FaultIs fault at text

pub sort : (at : ℕ) (text : List ℕ) → FaultAt Spelled text at → outside (take (suc at) text) ≤ 65536 → Sort at text
sort at text f fits =
    elim (cases_Bool (passes_limit Commands at text)) [
      | inl long ↦
          let tag = tag_before_literal text at (let w = f.within in omega (arith, w)) f.before long in
          let less = outside-take at (suc at) text (omega arith) in
          record { fault = LiteralTooLong tag.0; is = (record { fault = f; fits = omega (arith, less, fits); long = long }, tag.1) }
      | inr short ↦
          let tag = sorted (take at text) in
          record { fault = Syntax tag.tag; is = (record { fault = f; fits = fits; short = short }, tag.is) }
    ]

-- ---- the line goes on

over-front : (at : ℕ) (p : Phase) (a b : List ℕ) → at < length a → over_from Commands p at (a ++ b) ≡ over_from Commands p at a
over-front at p [] b h = absurd (omega (arith, h))
over-front zero p (c ∷ a) b h = refl
over-front (suc at) p (c ∷ a) b h = over-front at (next p c) a b (omega (arith, h))

pub fault_stays : (fault : LineFault) (at : ℕ) (a b : List ℕ) → FaultIs fault at a → FaultIs fault at (a ++ b)
fault_stays (Syntax tag) at a b h =
    let w = h.0.fault.within in
    let fits = h.0.fits in (
      record { fault = fault_more a b at h.0.fault; fits = omega (arith, fits, ap outside (take-append-le (suc at) a b (omega (arith, w)))); short = over-front at Plain a b w ∙ h.0.short },
      subst (λ (l : List ℕ). TagIs l tag) (sym (take-append-le at a b (omega (arith, w)))) h.1,
    )
fault_stays (LiteralTooLong tag) at a b h =
    let w = h.0.fault.within in
    let fits = h.0.fits in (
      record { fault = fault_more a b at h.0.fault; fits = omega (arith, fits, ap outside (take-append-le at a b (omega (arith, w)))); long = over-front at Plain a b w ∙ h.0.long },
      subst (λ (l : List ℕ). TagIs l (Some tag)) (sym (take-append-le at a b (omega (arith, w)))) h.1,
    )

-- ---- the line ends

module _ (fault : LineFault) (at : ℕ) (text w last : List ℕ) (x y : ℕ) (is : FaultIs fault at text) (parts : drop at text ≡ w ++ 10 ∷ []) (tail : Tail w last) (return : last ≡ x ∷ y ∷ 13 ∷ []) where
  abbrev ends : EndsLine at text
  ends =
      let e = ends_with w x y 12 (sym tail.last_is ∙ return) in
      record {
        part = e.front;
        ends = parts ∙ ap (λ (l : List ℕ). l ++ 10 ∷ []) e.parts ∙ append_assoc e.front (13 ∷ []) (10 ∷ []);
        first = λ a b s. elim (crlf_in w 10 a b (sym parts ∙ s)) [ Before d inside ↦ absurd (tail.no_end a d inside) | Last last_one ten none ↦ none ];
      }

  abbrev line : (said : List Reply) → said ≡ goes_in (take at text) → IsFaultyLine fault text said
  line said said_is = record { at = at; is = is; ends = ends; said_is = said_is }

  abbrev answer : Server → Bool → Answer
  answer s b = if b then closing s else only s (fault_reply fault)

  pub record Dropped (said : List Reply) (s : Server) : Type 0 where
    pub item : Item
    pub reads : Reads item text said
    pub in_time : is_late item ≡ false
    pub does : (new : Server) → new ≡ (dropped_answer fault last s).after → Does s item (dropped_answer fault last s).replies new

  pub dropped : (said : List Reply) (s : Server) → said ≡ goes_in (take at text) → Dropped said s
  dropped said s said_is =
      elim (cases_Bool (loses_octets fault last)) [
        | inl lost ↦ record {
          item = Ends;
          reads = inl (record { fault = fault; line = line said said_is; follow = subst (OctetsFollow fault) (sym parts) (octets_follow fault w last (sym tail.last_is) lost) });
          in_time = refl;
          does = λ new. subst (λ (b : Bool). new ≡ (answer s b).after → Does s Ends (answer s b).replies new) (sym lost) (λ e. (refl, e));
        }
        | inr kept ↦ record {
          item = Faulty fault;
          reads = (line said said_is, λ o. no_octets_follow fault w last (sym tail.last_is) kept (subst (OctetsFollow fault) parts o));
          in_time = refl;
          does = λ new. subst (λ (b : Bool). new ≡ (answer s b).after → Does s (Faulty fault) (answer s b).replies new) (sym kept) (λ e. (refl, e));
        }
      ]
