use Rattle.std.proofs.Common.{rules}
use Rattle.link_face.proofs.SoughtLemmas.{looks_on, sought_next}
use Rattle.link_face.proofs.extent.ReplyExtent.look.Goals as goal

pub returns-in_default-2 : goal.returns-in_default-2
returns-in_default-2 c = record {
  sought = c.loop.invariant.sought;
  looks = looks_on c.loop.self c.next_place.new.self c.args.bytes.now c.in-Some.end c.in_ok-extent.extent (search rules) c.in-Some.ensures (search rules);
}

pub loop-preserved : goal.loop-preserved
loop-preserved c = record {
  sought = sought_next c.loop.self c.next_place.new.self c.args.bytes.now c.in-Some.end c.in-Some.ensures (search rules);
  far = search rules;
}
