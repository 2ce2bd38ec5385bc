use Rattle.p3_uni_stark.proofs.SizedDegrees.{sizable_degrees_fit}
use Rattle.p3_uni_stark.proofs.sizing.degrees_fit_the_quotient.Goals as goal

pub returns : goal.returns
returns g c = λ public_values key height. sizable_degrees_fit (g.A.Air.constraints c.args._air.now) c.requires.sizable (g.A.BaseAir.degree_hint c.args._air.now) g.SC.Pcs.Pcs.ZK height
