use Rattle.std.proofs.Common.{◌∙◌, ap, sym}
use Rattle.std.proofs.lemmas.Bool.Decides.{same_from_decides}
use Rattle.channels.proofs.BoxLemmas.{put_names-chosen, put_names-passed}
use Rattle.channels.proofs.boxes.add_chosen.Goals as goal
use Rattle.channels.proofs.boxes.add_chosen.Goals.{then-matches+in_ok-put_name, else-matches}

pub loop-name-preserved : goal.loop-name-preserved
loop-name-preserved c = record {
  rising = elim c.if-matches.branch [
    | then-matches+in_ok-put_name w ↦ rw w.boxes-is w.in_ok-put_name.ensures.rising
    | else-matches w ↦ rw w.boxes-is c.loop-name.invariant.rising
  ];
  boxes = λ is_chosen states.
      let h = c.loop-name.invariant.boxes is_chosen states in
      let same = same_from_decides (is_chosen c.as_str.result.now) c.matches.result (states c.as_str.result.now) c.matches.ensures in
      let at = ap is_chosen (sym (c.as_str.ensures.text ∙ c.name-item.is)) ∙ same in
      elim c.if-matches.branch [
        | then-matches+in_ok-put_name w ↦
            let m = put_names-chosen is_chosen c.args.boxes.now.items c.args.names.now c.loop-name.name-index c.name-item.result c.loop-name-test.true (at ∙ w.if-matches.true) in
            let p = w.in_ok-put_name.ensures.put in
            let i = c.name-item.is in
            let b = w.boxes-is in
            cc
        | else-matches w ↦
            let m = put_names-passed is_chosen c.args.boxes.now.items c.args.names.now c.loop-name.name-index c.name-item.result c.loop-name-test.true (at ∙ w.if-matches.false) in
            let b = w.boxes-is in
            cc
      ];
}
