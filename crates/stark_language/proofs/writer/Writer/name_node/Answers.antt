use Rattle.std.proofs.Common.{◌≡◌, ◌∙◌, ◌<◌, Some, None, List, length, map, set, ap, sym, subst}
use Rattle.std.proofs.lemmas.List.{map-set}
use Rattle.std.proofs.lemmas.Result.{err_from_is_err_and}
use Rattle.stark_language.specs.Expressions.{name_view}
use Rattle.stark_language.specs.Nodes.{entry_view, place_of, writer_view}
use Rattle.stark_language.specs.declared.writer.Entry.{Entry as CodeEntry}
use Rattle.stark_language.specs.declared.writer.Value.TheVariants.{At}
use Rattle.stark_language.proofs.Naming.{entry_read, read_twice, name_fails, name_written, unknown_name}
use Rattle.stark_language.proofs.writer.Writer.name_node.Goals as goal

pub returns-in_default : goal.returns-in_default
returns-in_default c =
    rw c.fault.ensures (unknown_name (name_view c.args.name) (writer_view c.args.self.now)
    (ap (λ xs. place_of c.args.name.text.now (map entry_view xs)) (sym c.deref.ensures.value) ∙ sym c.place_of.ensures.exact ∙ c.in_default.is))

pub returns-in_err-node : goal.returns-in_err-node
returns-in_err-node c =
    let p = err_from_is_err_and c.from_residual.result c.from_residual.ensures.1 in
    rw (p.1, p.2) (name_fails (name_view c.args.name) (writer_view c.args.self.now) c.in-Some.place (entry_view c.index-entry.result.now) (ap (λ xs. place_of c.args.name.text.now (map entry_view xs)) (sym c.deref.ensures.value) ∙ sym c.place_of.ensures.exact ∙ c.in-Some.is) (entry_read entry_view c.args.self.now.names.items c.in-Some.place c.index-entry.result.now (subst (λ xs. c.in-Some.place < length xs) c.deref.ensures.value c.in-Some.ensures.within) c.index-entry.ensures) c.in_err-node.field-0.0 c.in_err-node.ensures.exact)

pub returns : goal.returns
returns c =
    let again = read_twice c.args.self.now.names.items c.value_node.new.self.names.items c.in-Some.place c.index-entry.result.now c.index_mut.result.now (subst (λ xs. c.in-Some.place < length xs) c.deref.ensures.value c.in-Some.ensures.within) c.index-entry.ensures c.index_mut.ensures.value c.value_node.ensures.names in
    let new : CodeEntry = record { name = c.index_mut.result.now.name; here = At c.in_ok-node.node; next = c.index_mut.result.now.next } in
    let same = ap (λ (z : CodeEntry). set (map entry_view c.value_node.new.self.names.items) c.in-Some.place (record { name = z.name.now; here = At c.in_ok-node.node; next = z.next })) (sym again) ∙ sym (map-set entry_view c.value_node.new.self.names.items c.in-Some.place new) in
    name_written (name_view c.args.name) (writer_view c.args.self.now) c.in-Some.place (entry_view c.index-entry.result.now) (ap (λ xs. place_of c.args.name.text.now (map entry_view xs)) (sym c.deref.ensures.value) ∙ sym c.place_of.ensures.exact ∙ c.in-Some.is) (entry_read entry_view c.args.self.now.names.items c.in-Some.place c.index-entry.result.now (subst (λ xs. c.in-Some.place < length xs) c.deref.ensures.value c.in-Some.ensures.within) c.index-entry.ensures) c.in_ok-node.node (writer_view c.value_node.new.self) _ c.in_ok-node.ensures.exact same
