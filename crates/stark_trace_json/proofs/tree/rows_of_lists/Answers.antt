use Rattle.std.proofs.Common.{◌≡◌, ◌<◌, ◌==◌, ◌∙◌, ◌++◌, Some, ap, arith, get_or, length, map, subst, sym, take, true}
use Rattle.std.specs.List.{flat_map, list_all}
use Rattle.std.proofs.lemmas.List.{get_or-map, length-map, take_all}
use Rattle.std.proofs.lemmas.Option.{slice_get-get_or}
use Rattle.stark_trace_json.proofs.Even.{even_more, values_more}
use Rattle.stark_trace_json.proofs.tree.rows_of_lists.Goals as goal

pub loop-row-preserved : goal.loop-row-preserved
loop-row-preserved g c =
    let lists = c.args.lists.now in
    let list = c.index-lists-row.result in
    let rows = map (λ list. list.items) lists in
    let here : get_or rows c.loop-row.row list.items ≡ list.items = get_or-map (λ list. list.items) lists c.loop-row.row list list.items c.loop-row-test.true ∙ ap (λ list. list.items) (sym c.index-lists-row.is) in
    let within : c.loop-row.row < length rows = omega (arith, length-map lists (λ list. list.items)) in
    let even : c.len.result ≡ c.first_length-width.result = c.if-len-width.false in
    record {
      values = values_more rows c.loop-row.row list.items c.loop-row.values.items c.extend_from_slice.new.self.items within here c.loop-row.invariant.values (c.in_ok-extend_from_slice.ensures.items ∙ ap (λ v. c.loop-row.values.items ++ v) c.deref.ensures.value);
      even = even_more rows c.loop-row.row list.items c.first_length-width.result within here (sym list.ok.0 ∙ sym c.len.ensures ∙ even) c.loop-row.invariant.even;
    }

pub returns-then-len-width : goal.returns-then-len-width
returns-then-len-width g c =
    let lists = c.args.lists.now in
    let list = c.index-lists-row.result in
    let rows = map (λ list. list.items) lists in
    let here : get_or rows c.loop-row.row list.items ≡ list.items = get_or-map (λ list. list.items) lists c.loop-row.row list list.items c.loop-row-test.true ∙ ap (λ list. list.items) (sym c.index-lists-row.is) in
    record {
      here = list.items;
      stands = slice_get-get_or rows c.loop-row.row list.items (omega (arith, length-map lists (λ list. list.items))) ∙ ap Some here;
      length_here = sym list.ok.0 ∙ sym c.len-then-len-width.ensures;
      wanted = sym c.first_length-width.ensures;
      other = λ same. c.if-len-width.true (c.len.ensures ∙ sym c.len-then-len-width.ensures ∙ same);
      before = c.loop-row.invariant.even;
    }

pub returns : goal.returns
returns g c =
    let lists = c.args.lists.now in
    let rows = map (λ list. list.items) lists in
    let all : take c.loop-row.row rows ≡ rows = take_all c.loop-row.row rows (omega (arith, length-map lists (λ list. list.items))) in
    record {
      values = c.loop-row.invariant.values ∙ ap (flat_map (λ row. row)) all;
      height = sym (length-map lists (λ list. list.items));
      width = c.first_length-width.ensures;
      even = subst (λ w. list_all (λ row. length row == w) rows ≡ true) c.first_length-width.ensures
          (subst (λ rs. list_all (λ row. length row == c.first_length-width.result) rs ≡ true) all c.loop-row.invariant.even);
    }
