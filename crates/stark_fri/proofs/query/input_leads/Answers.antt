use Rattle.std.proofs.Common.{◌≡◌, ◌∙◌, ◌↔◌, IsTrue, ap, subst}
use Rattle.stark_merkle.specs.Bytes.{element_bytes, row_bytes_of}
use Rattle.stark_merkle.specs.Tree.{LeadsTo}
use Rattle.stark_fri_proof.specs.Paths.{digests_of}
use Rattle.stark_fri.proofs.query.input_leads.Goals as goal

pub returns : goal.returns
returns g c =
    let hash = g.H.TreeHash.digests in
    let input = c.args.input.now in
    let bits = c.args.bits in
    let place = c.args.place in
    let row = row_bytes_of (element_bytes g.F.PrimeField64.BYTES g.F.PrimeField64.number_of) input.rows in
    let is_row : c.deref.result.now ≡ row = c.deref.ensures.value ∙ c.in_ok-bytes.ensures ∙ ap (row_bytes_of (element_bytes g.F.PrimeField64.BYTES g.F.PrimeField64.number_of)) c.rows.ensures in
    subst (λ root. IsTrue c.is_path_to.result ↔ LeadsTo hash root bits place row (digests_of input.path)) c.bytes.ensures
    (subst (λ bytes. IsTrue c.is_path_to.result ↔ LeadsTo hash c.bytes.result bits place bytes (digests_of input.path)) is_row
    (subst (λ path. IsTrue c.is_path_to.result ↔ LeadsTo hash c.bytes.result bits place c.deref.result.now path) (c.digests.ensures ∙ ap digests_of c.path.ensures) c.is_path_to.ensures))
