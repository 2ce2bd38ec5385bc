-- Numbers of an AIR, with the domains that their heights give.
use Rattle.std.specs.Prelude.{◌≡◌, ◌^◌, true, length}
use Rattle.stark_support.specs.Coset.{TwoAdicCoset}
use Rattle.stark_answers.specs.CheckedAir.{CheckedAir, shape_of}
use Rattle.stark_commands.specs.Check.{trace_coset, whole_coset}
use Rattle.stark_commands.specs.Input.{Base, CheckNumbers, has_shape}
use Rattle.stark_commands.specs.declared.point.PointDomains.{PointDomains}

-- The numbers have the AIR's shape, these are the domains of the trace and of the quotient, and there are as many chunks as it is cut into.
pub record IsCut {D : Type 0} (air : CheckedAir Base) (m : CheckNumbers) (coset_of : D → TwoAdicCoset Base) (domains : PointDomains D) : Type 0 where
  pub shape : has_shape (shape_of air) m ≡ true
  pub trace : coset_of domains.trace ≡ trace_coset m.log_height
  pub quotient : coset_of domains.quotient ≡ whole_coset m.log_height domains.log_chunks
  pub chunks : length m.chunks ≡ 2 ^ domains.log_chunks
