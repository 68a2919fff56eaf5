use Rattle.std.proofs.Common.{rules, ◌≡◌, None}
use Rattle.mailcore.specs.KeywordNames.{keyword_refused, with_keyword}
use Rattle.mailcore.proofs.KeywordMaps.{map_with}
use Rattle.mailcore.proofs.keywords.Keywords.add.Goals as goal

pub invariant_of-self-2 : goal.invariant_of-self-2
invariant_of-self-2 c =
    let now : c.insert.new.self.items ≡ with_keyword (record { letter = c.args.letter; name = c.args.name.now }) c.self.inside.list.items = search rules in
    let none : keyword_refused c.args.letter c.args.name.now c.self.inside.list.items ≡ None = search rules in
    rw now (map_with c.args.letter c.args.name.now c.self.inside.list.items c.self.invariant none)
