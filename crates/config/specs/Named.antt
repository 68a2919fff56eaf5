-- Groups whose channels are names.
use Rattle.std.specs.Prelude.{ℕ, List, map, string_bytes}
use Rattle.config.specs.declared.group.Member.{Member}
use Rattle.config.specs.declared.group.NamedGroup.{NamedGroup}
use Rattle.config.specs.Sections.{GroupMeaning}

abbrev pub member_name : Member → List ℕ
member_name m = string_bytes m.name

abbrev pub group_named : NamedGroup → GroupMeaning
group_named g = record { name = string_bytes g.name; channels = map member_name g.members.items }
