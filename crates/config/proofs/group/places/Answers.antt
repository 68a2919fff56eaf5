use Rattle.std.proofs.Common.{◌≡◌, ◌∙◌, List, ◌∷◌, ◌+◌, ap, arith, drop, map, rules, subst, sym}
use Rattle.std.proofs.lemmas.List.{drop_more}
use Rattle.std.specs.Prelude.{Option, IfSome, string_bytes}
use Rattle.config_words.specs.declared.fault.ConfigFault.{ConfigFault}
use Rattle.config.specs.declared.group.Member.{Member}
use Rattle.config.specs.Lines.{IsUpTo}
use Rattle.config.specs.Outlines.{Reports}
use Rattle.config.specs.Sections.{place_among}
use Rattle.config.proofs.GroupLemmas.{place_more}
use Rattle.config.proofs.PartedLemmas.{some_first}
use Rattle.config.proofs.group.places.Goals as goal
use Rattle.config.proofs.group.places.Goals.{in-Some+in_ok-push-in-Some, in-None}

pub loop-member-preserved : goal.loop-member-preserved
loop-member-preserved c = elim c.match-place_of.branch [
  | in-Some+in_ok-push-in-Some w ↦ (
    λ last are old. subst (λ (f : Option ConfigFault). IfSome f (IsUpTo last)) (sym w.first-is) (c.loop-member.invariant.0 last are old),
    λ again reported. subst (λ (f : Option ConfigFault). Reports again f) (sym w.first-is) (c.loop-member.invariant.1 again reported),
    λ none. c.loop-member.invariant.2 (sym w.first-is ∙ none),
    λ none.
        let following = drop (c.loop-member.member-index + 1) c.args.members.now in
        let next : drop c.loop-member.member-index c.args.members.now ≡ c.member-item.result ∷ following =
        drop_more c.args.members.now c.loop-member.member-index c.member-item.result (omega arith) ∙ ap (λ (m : Member). m ∷ following) (sym c.member-item.is) in
        place_more (place_among (map string_bytes c.args.channels.now)) c.loop-member.places.items c.match-place_of.places.items w.in-Some.place
        (drop c.loop-member.member-index c.args.members.now) following c.member-item.result _
        (search rules) next (search rules) (c.loop-member.invariant.3 (sym w.first-is ∙ none)),
  )
  | in-None w ↦ (
    search rules,
    λ again reported. subst (λ (f : Option ConfigFault). Reports again f) (sym w.first-is) (w.unknown_first.ensures.again again (c.loop-member.invariant.1 again reported)),
    λ none. absurd (some_first w.first-is none),
    λ none. absurd (some_first w.first-is none),
  )
]
