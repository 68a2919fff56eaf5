use Rattle.std.proofs.Common.{[], ◌∷◌, Some, None, sym, ap, ◌∙◌}
use Rattle.std.proofs.lemmas.Bool.Decides.{Decides-eqb}
use Rattle.std.proofs.lemmas.Slice.Eq.{strip_suffix_is}
use Rattle.mailcore.specs.Content.{CR}
use Rattle.mailcore.specs.ContentLines.{without_last_crs}
use Rattle.mailcore.proofs.LineLemmas.{without_last_crs_push, without_last_crs_none}
use Rattle.mailcore.proofs.content_lines.without_last_crs.Goals as goal

pub loop-front-preserved : goal.loop-front-preserved
loop-front-preserved c =
    let cut = strip_suffix_is Decides-eqb c.loop-front.text.now (CR ∷ []) (Some c.in-Some.front) c.in-Some.ensures.cases in
    sym (without_last_crs_push c.in-Some.front.now) ∙ ap without_last_crs (sym cut) ∙ c.loop-front.invariant

pub returns : goal.returns
returns c =
    sym (without_last_crs_none c.loop-front.text.now (strip_suffix_is Decides-eqb c.loop-front.text.now (CR ∷ []) None c.in_default.ensures.cases)) ∙ c.loop-front.invariant
