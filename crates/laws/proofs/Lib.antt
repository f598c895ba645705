-- Demand 3, for what the lists hold after the calls: what the order of the connections does not change, what an unequal-delay reason says,
-- and that a refusal changes nothing
pub mod CallReordering
pub mod CallReasons
pub mod CallRefusals
-- that a refusal has one of the fifteen numbers
pub mod RefusalNumbers
pub mod DescribeReordering
pub mod AnalyzeReordering
-- what the trace call and recording promise
pub mod TraceCalls
-- what the scene call has to do with its two parts, which part only by the room of their lists
pub mod CallsTogether
-- what the entries in use of an accepted call are
pub mod CallEntries
-- demand 3, for what the rules define
pub mod Reordering
pub mod UnequalReasons
pub mod BaseScenes
pub mod StartRange
-- each projected edge and each reason, once and in order
pub mod Entries
-- that every list has room, and that sums do not meet their cap
pub mod CallRoom
pub mod TraceRoom
pub mod Room
pub mod PlainSums
-- the report: that a scene read is checked as the call checks it, and that no report is cut
pub mod ReadScenes
pub mod ReportRoom
pub mod ReportLines
-- what these rest on
pub mod Order
pub mod Chains
pub mod Projection
pub mod PathParts
pub mod StoredEdges
-- ids and positions: the passes work on positions, the meanings on ids
pub mod Renaming
pub mod RenamedProjection
pub mod PositionEdges
pub mod ByPosition
