-- The world of the parts that are written.
use Rattle.std.specs.Prelude.{map}
use Rattle.mailcore.specs.Stores.{Store}
use Rattle.rules.specs.World.{World}
use Rattle.worlds.specs.Worlds.{waiting_of}
use Rattle.worlds.specs.declared.write.WrittenMailbox.{WrittenMailbox}
use Rattle.worlds.specs.declared.write.WrittenWorld.{WrittenWorld}

abbrev pub store_in : WrittenMailbox → Store
store_in m = record { validity = m.validity; next = m.next; messages = m.messages.now }

abbrev pub world_in : WrittenWorld → World
world_in p = record { far = store_in p.far; near = store_in p.near; waiting = map waiting_of p.waiting.now; state = p.state.now }
