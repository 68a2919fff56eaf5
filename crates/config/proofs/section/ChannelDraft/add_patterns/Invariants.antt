use Rattle.std.proofs.Common.{◌≡◌, ◌++◌}
use Rattle.config.specs.Views.{channel_view}
use Rattle.config.proofs.section.ChannelDraft.add_patterns.Given as goal

abbrev pub invariant-loop-pattern : goal.invariant-loop-pattern
invariant-loop-pattern l =
    (channel_view l.self ≡ record (channel_view l.initial.self) { patterns = (channel_view l.initial.self).patterns ++ l.yielded })
    × (l.self.manner ≡ l.initial.self.manner)
