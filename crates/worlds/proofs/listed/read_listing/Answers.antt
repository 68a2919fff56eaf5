use Rattle.std.proofs.Common.{◌≡◌, ℕ, List, ◌++◌, ◌∷◌, [], subst, rules, arith}
use Rattle.std.specs.Prelude.{decimal}
use Rattle.mailcore.specs.declared.listing.Listing.{Listing}
use Rattle.worlds.specs.ListedWorlds.{ListsMailbox}
use Rattle.worlds.proofs.ListedLemmas.{lists_begin, lists_end, lists_more}
use Rattle.worlds.proofs.NamedLemmas.{item_more}
use Rattle.worlds.proofs.listed.read_listing.Goals as goal

pub loop-line-init : goal.loop-line-init
loop-line-init c =
    let words : c.in_ok-line.line.text.now ≡ decimal c.in_ok-validity.validity ++ 32 ∷ decimal c.in_ok-validity.next = search rules in
    record {
      start = c.line_starts.ensures.1;
      text = lists_begin c.args.side c.in_ok-validity.validity c.in_ok-validity.next _ _ _ _ _ c.line_starts.ensures.0 c.in_ok-line.ensures.line words (search rules);
      named = search rules;
      count = omega arith;
    }

pub loop-line-preserved : goal.loop-line-preserved
loop-line-preserved c =
    let old = c.loop-line.items in
    let new = c.push.new.self in
    let item = c.in_ok-item.item in
    let is : new ≡ old ++ item ∷ [] = search rules in
    record {
      start = c.loop-line.invariant.start;
      text = lists_more c.args.side c.in_ok-validity.validity c.in_ok-validity.next old new item _ _ _ _ _ _ c.loop-line.invariant.start c.in-Some.ensures.line
          c.in_ok-item.ensures.words c.in_ok-item.ensures.item is c.loop-line.invariant.text;
      named = item_more c.args.keywords.now old new item c.loop-line.invariant.named c.in_ok-item.ensures.named is;
      count = omega arith;
    }

pub returns-clause-text : goal.returns-clause-text
returns-clause-text c =
    let validity = c.in_ok-validity.validity in
    let next = c.in_ok-validity.next in
    let items = c.loop-line.items in
    let listing : Listing = record { validity = validity; next = next; items = items } in
    let same : c.loop-line.lines.rest.now ≡ c.take_if.new.self.rest.now = search rules in
    subst (λ (rest : List ℕ). ListsMailbox c.args.side c.args.lines.now.rest.now rest listing) same (lists_end c.args.side validity next _ _ items c.loop-line.invariant.text)
