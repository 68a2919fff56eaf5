use Rattle.std.proofs.Common.{ℕ, ◌-◌, List, take, sym, subst}
use Rattle.wire_reader.specs.declared.lexical.Phase.{Phase}
use Rattle.wire_reader.specs.declared.lexical.Phase.TheVariants.{In}
use Rattle.wire_reader.specs.Advancing.{Advances, Nul}
use Rattle.wire_reader.proofs.Scanned.{skipped}
use Rattle.wire_reader.proofs.scanner.Scanner.skip_octets.Goals as goal

pub returns : goal.returns
returns c =
    let count = c.args.self.now.outside in
    let found = c.to_nul-count.result in
    let nul : Nul (take (c.args.n - 1) c.args.bytes.now) found = subst (λ (x : List ℕ). Nul x found) c.front.ensures c.to_nul-count.ensures in
    subst (λ (p : Phase). Advances (record { phase = p; outside = count }) c.args.bytes.now found (record { phase = In (c.args.n - found.0); outside = count })) (sym c.requires.inside)
    (skipped c.args.bytes.now c.args.n count found c.requires.more c.requires.some nul)
