-- What is found of a proof that was replayed.
use Rattle.std.specs.Prelude.{◌≡◌, ℕ, ◌+◌, ◌≤◌, Bool, IsTrue, List, length, Option, take}
use Rattle.std.specs.List.{AllByRecursion, zip}
use Rattle.std.specs.declared.vec.Vec.{Vec}
use Rattle.stark_support.specs.Coset.{TwoAdicCoset}
use Rattle.stark_merkle.specs.Tree.{TreeDigests}
use Rattle.stark_fri_proof.specs.Parts.{QueryProof}
use Rattle.stark_fri.specs.Claims.{AreOff, RoundRead, rounds_in}
use Rattle.stark_fri.specs.Found.{FindsFault, FindsQueryFault, target_by}
use Rattle.stark_fri.specs.Eights.{AreWalks, IsQueryWalk}
use Rattle.stark_fri.specs.Parts.{FriFields}
use Rattle.stark_fri.specs.Query.{QueryHolds, Target}
use Rattle.stark_fri.specs.declared.error.QueryFault.{QueryFault}
use Rattle.stark_fri.specs.declared.folds.FoldWalk.{FoldWalk}
use Rattle.stark_fri.specs.declared.replay.ReplayedProof.{ReplayedProof}

module _ {F E D : Type 0} (fields : FriFields F E) (coset_of : D → TwoAdicCoset F) (replayed : ReplayedProof F E D) where
  abbrev pub rounds_of : List (RoundRead E)
  rounds_of = rounds_in coset_of replayed.claims.now

  -- A challenge was drawn for each fold, the folds and the extended rows are not too many, and no claimed point lies on the rows' coset.
  pub record IsCheckable : Type 0 where
    pub betas : length replayed.drawn.now.betas.items ≡ length replayed.proof.now.phases
    pub folds : length replayed.proof.now.phases ≤ replayed.bits
    pub within : replayed.bits ≤ fields.adicity
    pub off : AreOff fields replayed.bits rounds_of

  -- What its queries are checked against.
  abbrev pub target_of : Target E
  target_of = target_by rounds_of replayed.bits replayed.drawn.now replayed.proof.now

  -- The drawn places, each with what the proof opens there.
  abbrev pub queries_of : List (ℕ × QueryProof F E)
  queries_of = zip replayed.drawn.now.places.items replayed.proof.now.queries

  -- A query's way through the folds, and those of eight.
  abbrev pub IsWalkIn : ℕ → QueryProof F E → FoldWalk E → Type 0
  IsWalkIn place query walk = IsQueryWalk fields target_of place query walk

  abbrev pub FindsEightWalks : {A : Type 0} → List ℕ → List (QueryProof F E) → Vec (FoldWalk E) A → Type 0
  FindsEightWalks places queries walks = AreWalks fields target_of places queries walks.items

  module _ (hash : TreeDigests) where
    -- The first fault of a query; none where it holds.
    abbrev pub FindsFaultIn : ℕ → QueryProof F E → Option QueryFault → Type 0
    FindsFaultIn place query fault = FindsQueryFault fields hash target_of (place, query) fault

    -- Each query holds; or this is the first that doesn't, and its first fault.
    abbrev pub FindsFirstQuery : Option (ℕ × QueryFault) → Type 0
    FindsFirstQuery fault = FindsFault fields hash target_of queries_of fault

    -- Where it is true, the eight hold.
    abbrev pub EightHoldIf : List ℕ → List (QueryProof F E) → Bool → Type 0
    EightHoldIf places queries hold = IsTrue hold → AllByRecursion (QueryHolds fields hash target_of) (zip places queries)

    -- The first n queries hold, and there are as many.
    abbrev pub FirstHold : ℕ → Type 0
    FirstHold n = (n ≤ length queries_of) × AllByRecursion (QueryHolds fields hash target_of) (take n queries_of)

    -- Where it is true and those before a place hold, the eight from there on hold too.
    abbrev pub HoldsOnIf : ℕ → Bool → Type 0
    HoldsOnIf at hold = IsTrue hold → FirstHold at → FirstHold (at + 8)
