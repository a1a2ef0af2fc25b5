use Rattle.marker_tool.proofs.ToolLaws.{tool_laws, tool_asked}
use Rattle.marker_tool.proofs.tool.MarkerToolPhases.laws.Goals as goal

pub returns-clause-phases : goal.returns-clause-phases
returns-clause-phases g c = tool_laws c.laws.ensures

pub returns-clause-asked : goal.returns-clause-asked
returns-clause-asked g c = tool_asked c.laws.ensures
