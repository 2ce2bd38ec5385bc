use Rattle.std.proofs.Common.{◌≡◌, ◌≢◌, ◌+◌, ◌++◌, drop}
use Rattle.stark_support.specs.Coset.{TwoAdicCoset}
use Rattle.stark_fri.specs.Parts.{FriFields}
use Rattle.stark_fri.specs.Query.{extension_coset, walked_by}
use Rattle.stark_fri.specs.Walks.{pairs_on}
use Rattle.stark_fri.proofs.Members.{fields_by}
use Rattle.stark_fri.proofs.folds.walk_folds.Given as goal

abbrev pub fields_of : (g : goal.Over) → FriFields g.row.F.Denot g.row.EF.Denot
fields_of g = fields_by g.F.TwoAdicField g.F.Field g.F.PrimeField64 g.EF.Field g.EF.ExtensionField

-- The way from here is what is left of the whole, and the coset is that of the layer that was reached.
abbrev pub invariant-loop-i : goal.invariant-loop-i
invariant-loop-i g l =
    let fields = fields_of g in
    let first = extension_coset fields l.bits in
    let here : TwoAdicCoset g.row.EF.Denot = record { shift = g.EF.ExtensionField.embed l.shift; log_size = l.log_size } in record {
      shift : l.shift ≢ g.F.Field.ring.zero;
      size : l.log_size + l.i ≡ l.bits;
      pairs : l.pairs.items ++ pairs_on fields here l.place l.reached (drop l.i l.betas) (drop l.i l.layers) ≡ pairs_on fields first l.fn.start l.fn.value l.betas l.layers;
      reached : walked_by fields here l.place l.reached (drop l.i l.betas) (drop l.i l.layers) ≡ walked_by fields first l.fn.start l.fn.value l.betas l.layers;
    }
