-- What has to be opened for texts to be read and run by computing: name `computed` on the line of the proof.
use denote.Hole.Carrier
use Rattle.std.specs.Fmt.{digits}
use Rattle.sq_tree.specs.declared.expr.Expr.{roll-Expr}
use Rattle.sq_tree.specs.declared.expr.Term.{roll-Term}
use Rattle.sq_tree.specs.declared.expr.Added.{roll-Added}
use Rattle.sq_tree.specs.declared.cond.Cond.{roll-Cond}
use Rattle.sq_tree.specs.declared.cond.Conj.{roll-Conj}
use Rattle.sq_tree.specs.declared.cond.TableExpression.{roll-TableExpression}
use Rattle.sq_tree.specs.declared.cond.QuerySpecification.{roll-QuerySpecification}
use Rattle.sq_tree.specs.declared.query.Query.{roll-Query}
use Rattle.sq_tree.specs.declared.expr.Primary.TheBlock as expr
use Rattle.sq_tree.specs.declared.cond.Body.TheBlock as cond
use Rattle.sq_tree.specs.declared.query.QueryTerm.TheBlock as query
use Rattle.sq_lex.specs.Reading.{reading}
use Rattle.sq_lex.specs.Piece.{first_piece, word, symbol, number, text, comment}
use Rattle.sq_lex.specs.Reserved.{reserved}
use Rattle.sq_grammar.specs.Cond as Cond
use Rattle.sq_grammar.specs.DataType as DataType
use Rattle.sq_grammar.specs.Expr as Expr
use Rattle.sq_grammar.specs.Module as Module
use Rattle.sq_grammar.specs.Names as Names
use Rattle.sq_grammar.specs.Query as Query
use Rattle.sq_grammar.specs.Reading as Reading
use Rattle.sq_grammar.specs.Schema as Schema
use Rattle.sq_grammar.specs.Script as Script
use Rattle.sq_grammar.specs.Select as Select
use Rattle.sq_grammar.specs.Statement as Statement
use Rattle.sq_meaning.specs.Spelled.{expr_of, cond_of, select_of, table_expression_of, query_of}

unfoldable pub computed : Unit {0}
unfolding digits reading first_piece word symbol number text comment reserved Cond.null_tail Cond.subquery Cond.comparison_tail Cond.between_tail Cond.in_tail Cond.like_tail Cond.negatable_tail Cond.tail Cond.predicate_from Cond.bracket Cond.body Cond.test_at Cond.must_be_test Cond.conj Cond.must_be_conj Cond.level Cond.inside Cond.cond DataType.precision_from DataType.precision DataType.length_from DataType.length_in DataType.length_if_any DataType.character_type DataType.data_type Expr.set_function Expr.bracketed Expr.primary_at Expr.factor Expr.scaled_factor Expr.term Expr.added_term Expr.level Expr.level_from Expr.inside Module.declaration_if_any Module.declaration Module.bare_declaration Module.declarations Module.procedure Module.sort_key Module.sort_specification Module.by_sorts Module.order_by Module.ordered_query Module.cursor Module.item Module.module_text Names.table_name Names.column_from Names.column_reference Names.indicator Names.parameter_from Names.parameter Names.signed_number Names.columns_from Names.columns Names.columns_if_any Query.bracketed Query.bracketed_term Query.query_term Query.union_term Query.level Query.inside Reading.eat Reading.expect Reading.opening_bracket Reading.one_of Reading.one_if_any Reading.many Reading.all Schema.references_from Schema.references Schema.default_value Schema.default_clause Schema.check Schema.column_constraint Schema.column_definition Schema.foreign_key Schema.table_constraint Schema.table_element Schema.table_definition Schema.check_option Schema.view_definition Schema.action Schema.privileges Schema.grantee Schema.grant_option Schema.grant Schema.created Schema.element Schema.schema_definition Schema.schema_text Script.argument Script.arguments Script.two_names Script.item Script.script_text Select.correlation Select.table_reference Select.from_clause Select.by_columns Select.group_by Select.select_list Select.table_expression Select.specification Statement.position Statement.orientation Statement.fetch_from Statement.fetch Statement.new_value Statement.target Statement.select Statement.insert_source Statement.insert Statement.assignment Statement.update Statement.delete Statement.statement Carrier.roll Carrier.hidden roll-Expr roll-Term roll-Added roll-Cond roll-Conj roll-TableExpression roll-QuerySpecification roll-Query expr.shape-the_row-Expr-0 expr.hidden-the_row-Expr-0 expr.shape-the_row-Added-1 expr.hidden-the_row-Added-1 expr.shape-the_row-Scaled-2 expr.hidden-the_row-Scaled-2 cond.shape-the_row-QuerySpecification-0 cond.hidden-the_row-QuerySpecification-0 cond.shape-the_row-Cond-1 cond.hidden-the_row-Cond-1 cond.shape-the_row-Conj-2 cond.hidden-the_row-Conj-2 cond.shape-the_row-Test-3 cond.hidden-the_row-Test-3 query.shape-the_row-Query-0 query.hidden-the_row-Query-0 query.shape-the_row-UnionTerm-1 query.hidden-the_row-UnionTerm-1 expr_of cond_of select_of table_expression_of query_of
computed = tt
