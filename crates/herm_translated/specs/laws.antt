-- What is claimed of the code of a process.
pub mod LayoutLaws
pub mod LabelsOfBlocks
pub mod LabelsAlong
pub mod LabelsAtEdges
pub mod NamedComponents
pub mod GoodStructure
pub mod CheckedBlocks
pub mod ConstantsOfImages
