use Rattle.std.proofs.Common.{◌≡◌, ◌++◌, ◌∷◌, [], rules, arith}
use Rattle.std.specs.List.{join_with_byte}
use Rattle.worlds.specs.Admission.{item_under}
use Rattle.worlds.specs.WorldText.{waiting_words}
use Rattle.worlds.proofs.ListedLemmas.{files_begin, files_listed}
use Rattle.worlds.proofs.NamedLemmas.{item_more}
use Rattle.worlds.proofs.listed.admit_waiting.Goals as goal

pub loop-line-init : goal.loop-line-init
loop-line-init c = record { text = files_begin _ _; named = λ h. h; count = omega arith }

pub loop-line-preserved : goal.loop-line-preserved
loop-line-preserved c =
    let old = c.loop-line.near in
    let new = c.admit.new.near in
    let flags = c.in-Some-split_file.flags in
    let bytes = c.read_bytes_into.new.bytes.items in
    let item = item_under old.next flags c.fit.result in
    let is : new.items ≡ old.items ++ item ∷ [] = search rules in
    let words : c.in-Some.line.text.now ≡ join_with_byte 32 (waiting_words (record { flags = flags; bytes = bytes })) = search rules in
    record {
      text = files_listed c.args.near.now old new flags c.fit.result bytes _ _ _ _ c.in-Some.ensures.line words (search rules) is (search rules) (search rules) c.loop-line.invariant.text;
      named = λ h. item_more c.args.keywords.now old.items new.items item (c.loop-line.invariant.named h) (search rules) is;
      count = omega arith;
    }
