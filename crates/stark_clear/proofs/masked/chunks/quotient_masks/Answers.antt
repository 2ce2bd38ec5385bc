use Rattle.std.proofs.Common.{ℕ, ◌≡◌, ◌∙◌, ◌*◌, [], ◌∷◌, ◌++◌, ap, arith, length, map, subst, sym}
use Rattle.std.proofs.lemmas.List.{map-append}
use Rattle.std.specs.List.{AllByRecursion}
use Rattle.stark_columns.specs.Columns.{columns_list}
use Rattle.stark_clear.specs.Masks.{HasMasks, balancing_masks, chunk_masks}
use Rattle.stark_clear.proofs.MaskSteps.{chunks_have_masks, next_place, one_more_chunk}
use Rattle.stark_clear.proofs.masked.chunks.quotient_masks.Goals as goal

pub loop-chunk-preserved : goal.loop-chunk-preserved
loop-chunk-preserved g c =
    let masks = c.args.masks.now in
    let count = c.loop-chunk._chunk in (
      one_more_chunk g.F.Field.ring masks 0 c.loop-chunk.place count c.args.width c.args.size (map columns_list c.loop-chunk.chunks.items) (map columns_list c.push.new.self.items) (columns_list c.in_ok-lists.lists)
          c.in_ok-lists.ensures.lists c.loop-chunk.invariant.1
          (ap (map columns_list) c.in_ok-push.ensures.items ∙ map-append columns_list c.loop-chunk.chunks.items (c.in_ok-lists.lists ∷ [])) c.loop-chunk.invariant.0,
      c.in_ok-lists.ensures.place ∙ next_place (length masks) 0 c.loop-chunk.place count (c.args.width * c.args.size) c.loop-chunk.invariant.1,
    )

pub balancing_masks-requires : goal.balancing_masks-requires
balancing_masks-requires g c =
    subst (AllByRecursion (HasMasks c.args.width c.args.size)) (sym (ap (map columns_list) c.deref.ensures.value ∙ c.loop-chunk.invariant.0))
    (chunks_have_masks g.F.Field.ring c.args.masks.now 0 c.loop-chunk._chunk c.args.width c.args.size)

pub returns : goal.returns
returns g c =
    let ring = g.F.Field.ring in
    let chosen = λ (n : ℕ). chunk_masks ring c.args.masks.now 0 n c.args.width c.args.size in
    let all : c.loop-chunk._chunk ≡ c.args.count = omega (arith, c.loop-chunk-test.false, c.loop-chunk.auto._chunk-end) in
    let made : map columns_list c.loop-chunk.chunks.items ≡ chosen c.args.count = c.loop-chunk.invariant.0 ∙ ap chosen all in
    let last = c.in_ok-last.ensures ∙ ap (λ t. balancing_masks ring t c.args.size c.args.width) (ap (map columns_list) c.deref.ensures.value ∙ made) in
    ap (map columns_list) c.in_ok-push-2.ensures.items ∙ map-append columns_list c.loop-chunk.chunks.items (c.in_ok-last.last ∷ [])
    ∙ ap (λ t. t ++ columns_list c.in_ok-last.last ∷ []) made ∙ ap (λ t. chosen c.args.count ++ t ∷ []) last
