-- What is wrong with a JSON value that spells no node, or no constraint.
use Rattle.std.specs.Prelude.{◌==◌, ℕ, ◌+◌, List, if◌then◌else◌, Option, None, Some, codes, string_bytes}
use Rattle.serde_json.specs.Data.{Data, Items, no_items, item, Members}
use Rattle.serde_json.specs.Find.{get, as_array, as_object, as_str}
use Rattle.stark_json.specs.Names.{first_unknown}
use Rattle.stark_tree_air.specs.NodeJson.{marks, operands_of}
use Rattle.stark_tree_air.specs.declared.node_fault.NodeFault.{NodeFault}
use Rattle.stark_tree_air.specs.declared.node_fault.ConstraintFault.{ConstraintFault}

-- Why a value spells no node.
pub data NodeRefusal : Type 0 where
  -- it is no array that begins with a string
  no_name : NodeRefusal
  unknown_name : List ℕ → NodeRefusal
  -- the name, how many operands its nodes have, and how many there are
  operand_count : List ℕ → ℕ → ℕ → NodeRefusal
  -- an operand of this name is no whole number
  operand_refused : List ℕ → NodeRefusal

-- Why a value spells no constraint.
pub data ConstraintRefusal : Type 0 where
  no_object : ConstraintRefusal
  unknown_member : List ℕ → ConstraintRefusal
  no_mark : ConstraintRefusal
  both_marks : ConstraintRefusal
  -- its one member is no whole number
  no_place : ConstraintRefusal

abbrev pub refused_node : NodeFault → NodeRefusal
refused_node NodeFault.NoName = no_name
refused_node (NodeFault.UnknownName name) = unknown_name (string_bytes name.name)
refused_node (NodeFault.OperandCount name expected got) = operand_count (string_bytes name.name) expected got
refused_node (NodeFault.Operand name) = operand_refused (string_bytes name.name)

abbrev pub refused_constraint : ConstraintFault → ConstraintRefusal
refused_constraint ConstraintFault.NotAnObject = no_object
refused_constraint (ConstraintFault.UnknownMember name) = unknown_member (string_bytes name.name)
refused_constraint ConstraintFault.NoMark = no_mark
refused_constraint ConstraintFault.BothMarks = both_marks
refused_constraint ConstraintFault.Place = no_place

-- ---- nodes

abbrev pub items_length : Items → ℕ
items_length no_items = 0
items_length (item d ds) = items_length ds + 1

-- of a name with this many operands, whose nodes have as many as are given last
abbrev pub name_refusal : List ℕ → ℕ → Option ℕ → NodeRefusal
name_refusal name got None = unknown_name name
name_refusal name got (Some expected) = if got == expected then operand_refused name else operand_count name expected got

abbrev pub tag_refusal : ℕ → Option (List ℕ) → NodeRefusal
tag_refusal got None = no_name
tag_refusal got (Some name) = name_refusal name got (operands_of name)

abbrev pub items_refusal : Items → NodeRefusal
items_refusal no_items = no_name
items_refusal (item tag ds) = tag_refusal (items_length ds) (as_str tag)

abbrev pub array_refusal : Option Items → NodeRefusal
array_refusal None = no_name
array_refusal (Some ds) = items_refusal ds

-- what is wrong with a value that spells no node
abbrev pub node_refusal : Data → NodeRefusal
node_refusal d = array_refusal (as_array d)

-- ---- constraints

abbrev pub members_refusal : Option Data → Option Data → ConstraintRefusal
members_refusal None None = no_mark
members_refusal None (Some d) = no_place
members_refusal (Some d) None = no_place
members_refusal (Some d) (Some e) = both_marks

-- of an object that has no other members
abbrev pub marks_refusal : Data → ConstraintRefusal
marks_refusal d = members_refusal (get (codes "base") d) (get (codes "ext") d)

abbrev pub names_refusal : Data → Option (List ℕ) → ConstraintRefusal
names_refusal d None = marks_refusal d
names_refusal d (Some name) = unknown_member name

abbrev pub object_refusal : Data → Option Members → ConstraintRefusal
object_refusal d None = no_object
object_refusal d (Some ms) = names_refusal d (first_unknown marks ms)

-- what is wrong with a value that spells no constraint
abbrev pub constraint_refusal : Data → ConstraintRefusal
constraint_refusal d = object_refusal d (as_object d)
