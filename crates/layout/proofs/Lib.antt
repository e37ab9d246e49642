mod Numbering
mod Results
