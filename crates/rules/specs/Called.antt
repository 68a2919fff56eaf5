-- What is called for: one rule for each kind of propagation, asked of one propagation at a time. Each push rule mirrors its pull rule with the sides exchanged.
use Rattle.std.specs.Prelude.{ℕ, Bool, false, not, ◌&&◌, ◌||◌, ◌==◌, Option, Some, None, nat_lt, if◌then◌else◌}
use Rattle.std.specs.List.{list_any}
use Rattle.mailcore.specs.declared.side.Side.{Side}
use Rattle.mailcore.specs.declared.side.Side.TheVariants.{Far, Near}
use Rattle.mailcore.specs.declared.side.Direction.{Direction}
use Rattle.mailcore.specs.declared.side.Direction.TheVariants.{Pull, Push}
use Rattle.mailcore.specs.declared.listing.Item.{Item}
use Rattle.mailcore.specs.FlagSet.{DELETED, has, minus}
use Rattle.mailcore.specs.Sides.{source, target, towards, other}
use Rattle.rules.specs.declared.entry.Entry.{Entry}
use Rattle.rules.specs.declared.entry.ListedPair.{ListedPair}
use Rattle.rules.specs.Propagation.{Propagation, New, Gone, Flags, Expunge, Record, Drop}
use Rattle.rules.specs.FlagRule.{taken, recorded_after, with_deleted}
use Rattle.rules.specs.Options.{goes, covers}
use Rattle.rules.specs.Entries.{uid_of, is_full, uids_of}
use Rattle.rules.specs.Scene.{Scene, items, highest, flags_at, is_listed, is_paired, full_entry}

-- ---- new messages

-- a message that would be new if it were fit: above the highest one taken over, in no entry, and not both deleted and on a side that Expunge covers
abbrev pub would_be_new : Scene → Direction → Item → Bool
would_be_new s d i = goes s.options.cells.new d && nat_lt (highest d s) i.uid && not (is_paired s (source d) i.uid)
    && not (has i.flags DELETED && covers s.options.expunge (source d))

abbrev pub is_new : Scene → Direction → Item → Bool
is_new s d i = would_be_new s d i && i.fit

-- a message that only wants fitness to be new
abbrev pub is_unfit : Scene → Direction → Item → Bool
is_unfit s d i = would_be_new s d i && not i.fit

-- ---- messages whose counterpart has gone

-- a full entry whose message on the source is not listed, and whose message on the target is
abbrev pub is_gone : Scene → Direction → Entry → Bool
is_gone s d e = goes s.options.cells.gone d && is_full e && not (is_listed s (source d) (uid_of (source d) e)) && is_listed s (target d) (uid_of (target d) e)

-- ---- flags of pairs

abbrev pub with_flags : (far near recorded : ℕ) → Option ℕ → Option ℕ → Option ListedPair
with_flags far near recorded None near_flags = None
with_flags far near recorded (Some far_flags) None = None
with_flags far near recorded (Some far_flags) (Some near_flags) = Some (record { far = far; near = near; far_flags = far_flags; near_flags = near_flags; recorded = recorded })

abbrev pub pair_between : Scene → (recorded : ℕ) → Option (ℕ × ℕ) → Option ListedPair
pair_between s recorded None = None
pair_between s recorded (Some uids) = with_flags uids.0 uids.1 recorded (flags_at s.far uids.0) (flags_at s.near uids.1)

-- the pair of a full entry whose messages are both listed
abbrev pub pair_of : Scene → Entry → Option ListedPair
pair_of s e = pair_between s e.flags (uids_of e)

-- the target's flags of a pair, and what they become
abbrev pub before : Direction → ListedPair → ℕ
before Pull p = p.near_flags
before Push p = p.far_flags

abbrev pub after : Direction → ListedPair → ℕ
after Pull p = taken p.far_flags p.near_flags p.recorded
after Push p = taken p.near_flags p.far_flags p.recorded

-- the flags recorded of a pair after the run
abbrev pub recorded : Scene → ListedPair → ℕ
recorded s p = recorded_after (goes s.options.cells.flags Pull) (goes s.options.cells.flags Push) p.far_flags p.near_flags p.recorded

-- flags before and after differ by these
abbrev pub differ_by : (set cleared before after : ℕ) → Bool
differ_by set cleared before after = not (before == after) && set == minus after before && cleared == minus before after

-- ---- expunges

-- the flags of a side's message after the gone and flags propagations that are called, by its counterpart's flags
abbrev pub flags_with : Scene → Side → (flags recorded : ℕ) → Option ℕ → ℕ
flags_with s side flags r None = if goes s.options.cells.gone (towards side) then with_deleted flags else flags
flags_with s side flags r (Some theirs) = if goes s.options.cells.flags (towards side) then taken theirs flags r else flags

-- the same, by the full entry that names it, if there is one
abbrev pub flags_by : Scene → Side → (flags : ℕ) → Option Entry → ℕ
flags_by s side flags None = flags
flags_by s side flags (Some e) = flags_with s side flags e.flags (flags_at (items s (other side)) (uid_of (other side) e))

abbrev pub flags_after : Scene → Side → (uid flags : ℕ) → ℕ
flags_after s side u flags = flags_by s side flags (full_entry s side u)

abbrev pub is_deleted_then : Scene → Side → (uid : ℕ) → Option ℕ → Bool
is_deleted_then s side u None = false
is_deleted_then s side u (Some flags) = has (flags_after s side u flags) DELETED

-- Expunge covers the side, and the message is listed and deleted after the other propagations
abbrev pub is_expunged : Scene → Side → (uid : ℕ) → Bool
is_expunged s side u = covers s.options.expunge side && is_deleted_then s side u (flags_at (items s side) u)

-- ---- drops

-- nothing is left of an entry's message on this side
abbrev pub vanishes : Scene → Side → (uid : ℕ) → Bool
vanishes s side u = u == 0 || not (is_listed s side u) || is_expunged s side u

-- ---- all of them

-- a fact of the entry with these UIDs, if there is one
abbrev pub of_entry : Scene → (far near : ℕ) → (Entry → Bool) → Bool
of_entry s f n p = list_any (λ e. uid_of Far e == f && uid_of Near e == n && p e) s.entries

abbrev pub is_pair_with : (far near : ℕ) → (ListedPair → Bool) → Option ListedPair → Bool
is_pair_with f n p None = false
is_pair_with f n p (Some pair) = pair.far == f && pair.near == n && p pair

-- a fact of the listed pair with these UIDs, if there is one
abbrev pub of_pair : Scene → (far near : ℕ) → (ListedPair → Bool) → Bool
of_pair s f n p = list_any (λ e. is_pair_with f n p (pair_of s e)) s.entries

abbrev pub called : Scene → Propagation → Bool
called s (New d u) = list_any (λ i. i.uid == u && is_new s d i) (items s (source d))
called s (Gone d f n) = of_entry s f n (is_gone s d)
called s (Flags d f n set cleared) = goes s.options.cells.flags d && of_pair s f n (λ p. differ_by set cleared (before d p) (after d p))
called s (Expunge side u) = is_expunged s side u
called s (Record f n w) = of_pair s f n (λ p. w == recorded s p && not (w == p.recorded))
called s (Drop f n) = of_entry s f n (λ e. vanishes s Far f && vanishes s Near n)
