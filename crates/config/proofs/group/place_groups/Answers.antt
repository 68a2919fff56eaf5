use Rattle.std.proofs.Common.{◌∙◌, map, rules, sym}
use Rattle.std.specs.Prelude.{string_bytes}
use Rattle.config.specs.declared.group.NamedGroup.{NamedGroup}
use Rattle.config.specs.Readings.{AreLines}
use Rattle.config.proofs.GroupLemmas.{all_before, group_more}
use Rattle.config.proofs.group.place_groups.Goals as goal

pub loop-group-preserved : goal.loop-group-preserved
loop-group-preserved c = (
  λ last are old.
      let lines = all_before (λ (g : NamedGroup). AreLines last g.members.items) c.loop-group.yielded c.in-Some.group are in
      c.in_ok-channels.ensures.lines last (search rules) (c.loop-group.invariant.0 last lines.0 old),
  λ again reported. c.in_ok-channels.ensures.again again (c.loop-group.invariant.1 again reported),
  λ none. c.loop-group.invariant.2 (c.in_ok-channels.ensures.none none),
  λ none.
      group_more (map string_bytes c.args.channels.now) c.loop-group.placed.items c.push.new.self.items _ c.loop-group.yielded c.in-Some.group
      c.in_ok-push.ensures.items (search rules) (c.loop-group.invariant.3 (c.in_ok-channels.ensures.none none)),
)
